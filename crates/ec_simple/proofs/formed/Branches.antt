-- Branches and bodies of `forall`s are outlined: their functions and calls are formed.
use Rattle.std.proofs.Common.{◌≡◌, refl, sym, subst, ℕ, suc, Bool, true, false, List, [], ◌∷◌, length}
use Rattle.std.specs.List.{list_all}
use Rattle.std.proofs.lemmas.Bool.{and_from}
use Rattle.ec_base.specs.declared.token.Span.{Span}
use Rattle.ec_simple.specs.declared.form.FuncKind.{FuncKind}
use Rattle.ec_simple.specs.declared.form.FuncKind.TheVariants as kind
use Rattle.ec_simple.specs.declared.form.SFunc.{SFunc}
use Rattle.ec_simple.specs.declared.form.Form.{Form}
use Rattle.ec_simple.specs.Formed.{is_formed_function}
use Rattle.ec_simple.specs.Kinds.{KindsStmt}
use Rattle.ec_simple.specs.Sound.{IsIn, SoundStmt}
use Rattle.ec_simple.specs.Statements.{LowStmt, index, inside, own, copied_in, outlined, low_stmt}
use Rattle.ec_simple.specs.Uses.{Use, declares}
use Rattle.ec_simple.proofs.formed.CallBranches.{call_branch_formed}
use Rattle.ec_simple.proofs.formed.Inside.{stands_inside, sound_inside, scope_inside, declared_inside, below_inside, placed_inside, temporaries_inside}
use Rattle.ec_simple.proofs.formed.Moved.{kinds_moved}
use Rattle.ec_simple.proofs.formed.Outlined.{outlined_formed, outlined_branch_formed}
use Rattle.ec_simple.proofs.formed.Spots.{Spot, Forms, FormedBranches, in_scope, below_scope}
use Rattle.ec_simple.proofs.formed.Standing.{At, at_first, at_rest}
use Rattle.ec_simple.proofs.lockstep.Branches.{chosen}
use Rattle.ec_simple.proofs.lockstep.Used.{IsUsed, nowhere}
use Rattle.ec_simple.proofs.lockstep.Variables.{Within}
use Rattle.ec_types.specs.Meaning.Branches.{is_call_branch}
use Rattle.ec_types.specs.Meaning.Tree.{Stmt}

module _ {s : Form} where
  module _ (z : Spot s) (more : List Use) (x : Stmt) (sound : SoundStmt s.shapes z.scope false z.sc x)
      (kinds : KindsStmt s.shapes z.scope z.gives x) (within : Within (declares x) z.ns)
      (header : (y : ℕ) → IsUsed y more → IsIn y z.sc) (forms : Forms s x) where
    abbrev ns : List ℕ
    ns = own z.scope more x

    abbrev low_inside : ℕ → LowStmt
    low_inside g = low_stmt (inside z.scope more x) x (length ns) (suc g)

    abbrev function : FuncKind → ℕ → SFunc
    function k g = outlined z.scope k more x g (low_inside g)

    -- the spot of its body
    abbrev inner : FuncKind → ℕ → Spot s
    inner k g = record {
      function = function k g;
      scope = inside z.scope more x;
      stands = stands_inside s z.scope (index ns) z.stands;
      ns = ns;
      placed = placed_inside s z.scope more x z.sc sound (below_scope z) header k g (low_inside g);
      below = below_inside s z.scope more x z.sc sound (below_scope z) header (λ y i. z.below y (within y i));
      sc = copied_in z.scope more x;
      inside = scope_inside s z.scope more x z.sc sound (below_scope z) header;
      may = false;
      gives = z.gives;
      returns = λ h. nowhere h;
    }

    -- the function, and those of branches and bodies in it
    pub outlined_forms : (k : FuncKind) (g : ℕ) → At s.funcs g (function k g ∷ (low_inside g).funcs) →
        list_all (is_formed_function s) (function k g ∷ (low_inside g).funcs) ≡ true
    outlined_forms k g h =
        let body = forms (inner k g) (sound_inside s z.scope more x z.sc sound (below_scope z) header)
        (kinds_moved s.shapes z.scope (index ns) z.gives x kinds)
        (declared_inside s z.scope more x z.sc sound (below_scope z) header) (length ns) (suc g)
        (temporaries_inside s z.scope more x z.sc sound (below_scope z) header k g (low_inside g))
        (at_rest s.funcs g (function k g) (low_inside g).funcs h) in
        and_from (is_formed_function s (function k g)) (list_all (is_formed_function s) (low_inside g).funcs)
        (outlined_formed s z.scope more x z.sc sound (below_scope z) header z.gives z.stands kinds k g body.0) body.1

  -- ---- one branch

  pub branch_forms : (z : Spot s) (at : Span) (x : Stmt) → SoundStmt s.shapes z.scope false z.sc x →
      KindsStmt s.shapes z.scope z.gives x → Within (declares x) z.ns → Forms s x → (t g : ℕ) →
      (b : Bool) → is_call_branch x ≡ b → At z.function.vars t (chosen z.scope at x t g b).vars →
      At s.funcs g (chosen z.scope at x t g b).funcs →
      FormedBranches s z.function (chosen z.scope at x t g b)
  branch_forms z at x f k w forms t g true e v h =
      let is = call_branch_formed s z.function z.scope z.sc z.gives z.stands (in_scope z) x e f k t v in
      (is.0, subst (λ l. list_all (is_formed_function s) l ≡ true) (sym is.1) refl)
  branch_forms z at x f k w forms t g false e v h =
      let body = low_stmt (inside z.scope [] x) x (length (own z.scope [] x)) (suc g) in
      let there = at_first s.funcs g (outlined z.scope kind.Branch [] x g body) body.funcs h in (
        outlined_branch_formed s z.scope x z.sc f (below_scope z) z.function (in_scope z) z.gives k at g body there,
        outlined_forms z [] x f k w (λ y i. nowhere i) forms kind.Branch g h,
      )
