-- Messages that are said, and cells that are set, behind messages that wait.
use Rattle.std.proofs.Common.{◌≡◌, ℕ, suc, Bool, true, false, if◌then◌else◌, List, [], ◌∷◌, refl, ap, append_assoc}
use Rattle.ec_base.specs.declared.value.Value.{Value}
use Rattle.ec_code.specs.declared.message.Message.{Message}
use Rattle.ec_eu.specs.Alone.{behind}
use Rattle.ec_eu.specs.Cells.{put, put_all, put_from}
use Rattle.ec_eu.specs.State.{Exec, says}

pub says_behind : (ms : List Message) (message : Message) (s : Exec) → says message (behind ms s) ≡ behind ms (says message s)
says_behind ms message s = ap {B = Exec} (λ waiting. record s { outbox = waiting }) (append_assoc ms s.outbox (message ∷ []))

pub put_all_behind : (ms : List Message) (n : ℕ) (cs : List ℕ) (xs : List Value) (s : Exec) →
    put_all n cs xs (behind ms s) ≡ behind ms (put_all n cs xs s)
put_all_behind ms n [] xs s = refl
put_all_behind ms n (c ∷ cs) [] s = refl
put_all_behind ms n (c ∷ cs) (x ∷ xs) s = put_all_behind ms n cs xs (put n c x s)

pub put_from_behind : (ms : List Message) (n c : ℕ) (xs : List Value) (s : Exec) →
    put_from n c xs (behind ms s) ≡ behind ms (put_from n c xs s)
put_from_behind ms n c [] s = refl
put_from_behind ms n c (x ∷ xs) s = put_from_behind ms n (suc c) xs (put n c x s)

-- of two ways, where both stand apart from what waits
pub either_way : {A : Type 0} (f : A → A) (test : Bool) (t u v w : A) → t ≡ f v → u ≡ f w →
    (if test then t else u) ≡ f (if test then v else w)
either_way f true t u v w h k = h
either_way f false t u v w h k = k
