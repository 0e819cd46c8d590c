-- A test of the transfers of an instruction, and of instructions, as plain moves.
use Rattle.std.proofs.Common.{◌≡◌, ℕ, Bool, true, false, List, [], ◌∷◌, refl, ap, sym, ◌∙◌, take, length, reverse}
use Rattle.std.proofs.lemmas.List.{reverse-append}
use Rattle.std.proofs.lemmas.List.Folds.{list_any-append}
use Rattle.std.proofs.Math.Seq.{take-length}
use Rattle.std.specs.Prelude.{◌||◌}
use Rattle.std.specs.List.{list_any}
use Rattle.po_term.specs.declared.transfer.Transfer.{Transfer}
use Rattle.po_term.specs.declared.transfer.Instr.{Instr}
use Rattle.po_term.specs.Moves.{move_of, moves_of, instr_of, instrs_of, PlainMove, PlainInstr}

pub any_move : (f : PlainMove → Bool) (xs : List Transfer)
    → list_any f (moves_of xs) ≡ list_any (λ t. f (move_of t)) xs
any_move f [] = refl
any_move f (x ∷ xs) = ap (λ b. f (move_of x) || b) (any_move f xs)

pub any_instr : (f : PlainInstr → Bool) (xs : List Instr)
    → list_any f (instrs_of xs) ≡ list_any (λ x. f (instr_of x)) xs
any_instr f [] = refl
any_instr f (x ∷ xs) = ap (λ b. f (instr_of x) || b) (any_instr f xs)

or_turned : (a b : Bool) → (a || (b || false)) ≡ (b || a)
or_turned true true = refl
or_turned true false = refl
or_turned false true = refl
or_turned false false = refl

any_back : {A : Type 0} (p : A → Bool) (xs : List A) → list_any p (reverse xs) ≡ list_any p xs
any_back p [] = refl
any_back p (x ∷ xs) =
    ap (λ ys. list_any p ys) (reverse-append (x ∷ []) xs)
    ∙ list_any-append p (reverse xs) (x ∷ [])
    ∙ or_turned (list_any p (reverse xs)) (p x)
    ∙ ap (λ b. p x || b) (any_back p xs)

pub any_instr_back : (f : PlainInstr → Bool) (xs : List Instr)
    → list_any f (instrs_of xs) ≡ list_any (λ x. f (instr_of x)) (reverse xs)
any_instr_back f xs = any_instr f xs ∙ sym (any_back (λ x. f (instr_of x)) xs)

-- the same at the end of a loop
pub all_moves_seen : (f : PlainMove → Bool) (xs : List Transfer) (i : ℕ) → i ≡ length xs
    → list_any (λ t. f (move_of t)) (take i xs) ≡ list_any f (moves_of xs)
all_moves_seen f xs i e =
    ap (λ (ys : List Transfer). list_any (λ t. f (move_of t)) ys) (ap (λ j. take j xs) e ∙ take-length xs)
    ∙ sym (any_move f xs)
