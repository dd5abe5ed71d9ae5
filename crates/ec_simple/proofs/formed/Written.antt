-- Written functions: their variables are there, they may be called, and they are formed.
use Rattle.std.proofs.Common.{◌≡◌, refl, sym, ap, ◌∙◌, subst, ℕ, ⊎_elim, zero, suc, ◌+◌, ◌<◌, arith, Bool, true, false, if◌then◌else◌, List, [], ◌∷◌, ◌++◌, append_assoc, map, length, slice_get, get_or, lt-ltb, Some, None, option_map, is_some}
use Rattle.std.specs.List.{list_all}
use Rattle.ec_base.specs.declared.text.Text.{Text}
use Rattle.ec_simple.specs.declared.form.SFunc.{SFunc}
use Rattle.ec_simple.specs.declared.form.SVar.{SVar}
use Rattle.ec_simple.specs.declared.form.Form.{Form}
use Rattle.ec_simple.specs.Expressions.{Scope, no_variable, of_variable}
use Rattle.ec_simple.specs.Formed.{kind_among, exists, is_formed, all_formed, is_formed_function}
use Rattle.ec_simple.specs.Kinds.{given, KindsFunction}
use Rattle.ec_simple.specs.Lower.{scope_of, result_variable, own_variables, low_body, written}
use Rattle.ec_simple.specs.Sound.{IsIn, SoundFunction, with_declared}
use Rattle.ec_simple.specs.Statements.{LowStmt, low_declarations, low_stmts}
use Rattle.ec_simple.specs.Uses.{declared, all_declare}
use Rattle.ec_simple.proofs.formed.Code.{both_true}
use Rattle.ec_simple.proofs.formed.Fitting.{Fitting, fits_in, fitting_both, fitting_declarations, fitting_stmts}
use Rattle.ec_simple.proofs.formed.Inside.{at_all}
use Rattle.ec_simple.proofs.formed.Assignments.{declarations_formed}
use Rattle.ec_simple.proofs.formed.Bodies.{low_stmts_formed}
use Rattle.ec_simple.proofs.formed.Standing.{At, Placed, Callable, Stands, given_kinds, at_left, at_right}
use Rattle.ec_simple.proofs.formed.Tests.{four, all_both}
use Rattle.ec_simple.proofs.formed.Kinds.{exists_there}
use Rattle.ec_simple.proofs.lockstep.Scopes.{declared_or_not}
use Rattle.ec_simple.proofs.lockstep.Statements.{declarations_none}
use Rattle.ec_simple.proofs.lockstep.Variables.{Within, in_head, in_tail, in_front, in_back}
use Rattle.ec_types.specs.Meaning.Layout.{or_zero}
use Rattle.ec_types.specs.Meaning.Tree.{Variable, Function}

-- ---- variables by number

own_there : (vs : List Variable) (rest : List SVar) (x : ℕ) → x < length vs →
    slice_get (map of_variable vs ++ rest) x ≡ Some (of_variable (get_or vs x no_variable))
own_there [] rest x l = absurd (omega (arith, l))
own_there (v ∷ vs) rest zero l = refl
own_there (v ∷ vs) rest (suc x) l = own_there vs rest x (omega (arith, l))

behind_own : (vs : List Variable) (v : SVar) (rest : List SVar) →
    slice_get (map of_variable vs ++ v ∷ rest) (length vs) ≡ Some v
behind_own [] v rest = refl
behind_own (w ∷ vs) v rest = behind_own vs v rest

own_fits : (s : Form) (vs : List Variable) → ((x : ℕ) → or_zero (get_or vs x no_variable).pointer < length s.shapes) →
    Fitting s (map of_variable vs)
own_fits s [] h = refl
own_fits s (v ∷ vs) h =
    both_true (fits_in s (of_variable v)) (list_all (fits_in s) (map of_variable vs))
    (lt-ltb (or_zero v.pointer) (length s.shapes) (h 0)) (own_fits s vs (λ x. h (suc x)))

-- the variable of a result
abbrev result_of : Function → SVar
result_of f = record { at = record { from = 0; to = 0 }; local = false; pointer = f.pointer; shape = f.shape }

module _ (all : List Function) (name : Text) (f : Function) (g : ℕ) where
  abbrev c : Scope
  c = scope_of all name f g

  abbrev function : SFunc
  function = written all name f g

  abbrev temporaries : List SVar
  temporaries = (low_body all name f g).vars

  variable_there : (x : ℕ) → x < length f.variables →
      slice_get function.vars x ≡ Some (of_variable (get_or f.variables x no_variable))
  variable_there x l =
      ap (λ vs. slice_get vs x) (append_assoc (map of_variable f.variables) (result_variable f) temporaries)
      ∙ own_there f.variables (result_variable f ++ temporaries) x l

  result_there : (rest : List SVar) →
      slice_get ((map of_variable f.variables ++ result_of f ∷ []) ++ rest) (length f.variables) ≡ Some (result_of f)
  result_there rest =
      ap (λ vs. slice_get vs (length f.variables)) (append_assoc (map of_variable f.variables) (result_of f ∷ []) rest)
      ∙ behind_own f.variables (result_of f) rest

  results_kinds : map (kind_among function.vars) function.results ≡ given_kinds (given f)
  results_kinds = go f.void temporaries
    where
      go : (b : Bool) (rest : List SVar) →
          map (kind_among ((map of_variable f.variables ++ (if b then [] else result_of f ∷ [])) ++ rest))
          (if b then [] else length f.variables ∷ [])
          ≡ given_kinds (if b then None else Some f.pointer)
      go true rest = refl
      go false rest = ap (λ z. option_map (λ v. v.pointer) z ∷ []) (result_there rest)

  results_exist : (s : Form) → list_all (exists s function) function.results ≡ true
  results_exist s = go f.void temporaries
    where
      go : (b : Bool) (rest : List SVar) →
          list_all (exists s (record function {
            vars = (map of_variable f.variables ++ (if b then [] else result_of f ∷ [])) ++ rest;
          }))
          (if b then [] else length f.variables ∷ [])
          ≡ true
      go true rest = refl
      go false rest =
          both_true _ true
          (exists_there s
          (record function { vars = (map of_variable f.variables ++ result_of f ∷ []) ++ rest }) (length f.variables)
          (result_of f) (result_there rest)) refl

  -- of parameters
  params_kinds : (xs : List ℕ) → ((x : ℕ) → IsIn x xs → x < length f.variables) →
      map (kind_among function.vars) xs ≡ map Some (map (λ x. is_some (get_or f.variables x no_variable).pointer) xs)
  params_kinds [] h = refl
  params_kinds (x ∷ xs) h =
      let one = ap (option_map (λ v. v.pointer)) (variable_there x (h x (in_head x x xs refl))) in
      let rest = params_kinds xs (λ y i. h y (in_tail y x xs i)) in
      ap (λ k. k ∷ map (kind_among function.vars) xs) one
      ∙ ap (λ ks. Some (is_some (get_or f.variables x no_variable).pointer) ∷ ks) rest

  module _ (s : Form) (sound : SoundFunction s.shapes c f) where
    abbrev names : List ℕ
    names = f.params ++ map declared f.decls ++ all_declare f.body

    params_in : Within f.params names
    params_in x i =
        in_front x (f.params ++ map declared f.decls) (all_declare f.body)
        (in_front x f.params (map declared f.decls) i)

    pub callable : (k : ℕ) → slice_get s.funcs k ≡ Some function → Callable s k f
    callable k h = record {
      function = function;
      there = h;
      written = refl;
      params = params_kinds f.params (λ x i. sound.below x (params_in x i));
      results = results_kinds;
    }

    -- ---- it is formed

    module _ (kinds : KindsFunction s.shapes c f) (stands : Stands s c) where
      abbrev t : ℕ
      t = length (own_variables f)

      abbrev first : LowStmt
      first = low_declarations c f.decls t

      abbrev u : ℕ
      u = t + length first.vars

      abbrev then : LowStmt
      then = low_stmts c f.body u g

      placed : Placed c function.vars names
      placed x i = variable_there x (sound.below x i)

      abbrev scope : List ℕ
      scope = with_declared s.shapes c f.decls f.params

      scope_in : Within scope names
      scope_in x i =
          in_front x (f.params ++ map declared f.decls) (all_declare f.body)
          (⊎_elim (λ j. in_back x f.params (map declared f.decls) j) (λ j. in_front x f.params (map declared f.decls) j)
          (declared_or_not s.shapes c f.decls f.params x i))

      temporaries_there : At function.vars t temporaries
      temporaries_there =
          let is : 0 + t ≡ t = omega arith in
          subst (λ n. At function.vars n temporaries) is
          (at_right function.vars 0 (own_variables f) temporaries (at_all function.vars))

      result_fits : Fitting s (result_variable f)
      result_fits = go f.void
        where
          go : (b : Bool) → Fitting s (if b then [] else result_of f ∷ [])
          go true = refl
          go false = both_true _ true (lt-ltb f.shape (length s.shapes) kinds.result) refl

      fitting : Fitting s function.vars
      fitting =
          fitting_both s (own_variables f) temporaries
          (fitting_both s (map of_variable f.variables) (result_variable f) (own_fits s f.variables kinds.variables)
          result_fits)
          (fitting_both s first.vars then.vars (fitting_declarations s c stands f.decls kinds.decls t)
          (fitting_stmts s c stands (given f) f.body kinds.body u g))

      first_formed : all_formed s function first.code ≡ true
      first_formed =
          declarations_formed s function c stands f.decls f.params (λ x i. placed x (scope_in x i)) sound.decls
          kinds.decls t
          (at_left function.vars t first.vars then.vars temporaries_there)

      then_formed : At s.funcs g then.funcs →
          (all_formed s function then.code ≡ true) × (list_all (is_formed_function s) then.funcs ≡ true)
      then_formed h =
          low_stmts_formed s function c (given f) true names scope stands placed sound.below scope_in
          (λ e. (refl, results_kinds)) f.body sound.body kinds.body
          (λ x i. in_back x (f.params ++ map declared f.decls) (all_declare f.body) i) u g
          (at_right function.vars t first.vars then.vars temporaries_there) h

      pub written_formed : At s.funcs g (low_body all name f g).funcs →
          (is_formed_function s (written all name f g) ≡ true)
          × (list_all (is_formed_function s) (low_body all name f g).funcs ≡ true)
      written_formed h =
          let none = declarations_none c f.decls t in
          let done = then_formed (subst (λ l. At s.funcs g (l ++ then.funcs)) none h) in (
            four (list_all (fits_in s) function.vars) (list_all (exists s function) function.params)
                (list_all (exists s function) function.results) (all_formed s function function.body) fitting
                (all_params f.params (λ x i. exists_there s function x _ (placed x (params_in x i)))) (results_exist s)
                (all_both (is_formed s function) first.code then.code first_formed done.0),
            subst (λ l. list_all (is_formed_function s) (l ++ then.funcs) ≡ true) (sym none) done.1,
          )
        where
          all_params : (xs : List ℕ) → ((x : ℕ) → IsIn x xs → exists s function x ≡ true) →
              list_all (exists s function) xs ≡ true
          all_params [] h = refl
          all_params (x ∷ xs) h =
              both_true _ _ (h x (in_head x x xs refl)) (all_params xs (λ y i. h y (in_tail y x xs i)))
