-- A simplified instruction does in every state what the instruction does.
use Rattle.std.proofs.Common.{◌≡◌, ℕ, Bool, true, false, List, [], ◌∷◌, ◌++◌, refl, sym, ◌∙◌, ap, append_assoc}
use Rattle.std.proofs.Common.{append-nil}
use Rattle.std.specs.Prelude.{if◌then◌else◌}
use Rattle.po_word.specs.declared.operator.Rel.{Rel}
use Rattle.po_word.specs.Words.{rel_value}
use Rattle.po_term.specs.declared.term.Reg.{Reg as Register}
use Rattle.po_term.specs.declared.term.Sym.{Sym}
use Rattle.po_term.specs.declared.term.Label.{Label}
use Rattle.po_term.specs.Tree.{Tree, Const}
use Rattle.po_term.specs.Terms.{Place, State, IsState, value}
use Rattle.po_term.specs.Moves.{GoTo, IfCc, IfTwo, CallOf, Return, Move, SetTo, CcTo, StoreTo, Ends}
use Rattle.po_term.specs.Kinds.{words, give}
use Rattle.po_term.specs.Simplified.{same_register, simple, decided, simple_move, simple_moves}
use Rattle.po_term.specs.Worth.{HasWords}
use Rattle.po_term.specs.Actions.{Action, Sets, Jumps, action, actions, MoveHasWords, MovesHaveWords, DoesAs}
use Rattle.po_simplify.proofs.Worths.{simple_worth}

abbrev Step : Type 0
Step = Move ℕ Place Register Sym

actions-append : (s : State) (xs ys : List Step) → actions s (xs ++ ys) ≡ actions s xs ++ actions s ys
actions-append s [] ys = refl
actions-append s (x ∷ xs) ys = ap (λ zs. action s x ++ zs) (actions-append s xs ys)
    ∙ sym (append_assoc (action s x) (actions s xs) (actions s ys))

words-append : (xs ys : List Step) → MovesHaveWords xs → MovesHaveWords ys → MovesHaveWords (xs ++ ys)
words-append [] ys h i = i
words-append (x ∷ xs) ys h i = (h.0, words-append xs ys h.1 i)

-- the moves have words, and do what is said
record Act (s : State) (xs : List Step) (acted : List Action) : Type 0 where
  fits : MovesHaveWords xs
  acts : actions s xs ≡ acted

-- what a branch on two words does
abbrev branch : Rel → Label → ℕ → ℕ → List Action
branch r l x y = if rel_value r x y then Jumps l ∷ [] else []

decided_act : (s : State) (a b : Tree ℕ Place) (r : Rel) (l : Label) → HasWords a → HasWords b
    → Act s (decided words same_register a b r l).got (branch r l (value s a) (value s b))
decided_act s (Const c) (Const d) r l h i = go (rel_value r c d)
  where
    go : (e : Bool) → Act s (if e then give {K = ℕ} (Ends (GoTo l) ∷ []) else give {K = ℕ} []).got
        (if e then Jumps l ∷ [] else [])
    go true = record { fits = (tt, tt); acts = refl }
    go false = record { fits = tt; acts = refl }
decided_act s a b r l h i = record { fits = ((h, i), tt); acts = append-nil (branch r l (value s a) (value s b)) }

module _ (s : State) (fits : IsState s) where
  move_act : (m : Step) → MoveHasWords m → Act s (simple_move words same_register m).got (action s m)
  move_act (SetTo r t) h = let w = simple_worth s fits t h in
      record { fits = (w.words, tt); acts = ap (λ x. Sets r x ∷ []) w.worth }
  move_act (CcTo t u) h =
      let w = simple_worth s fits t h.0 in
      let v = simple_worth s fits u h.1 in
      record { fits = ((w.words, v.words), tt); acts = rw (w.worth, v.worth) refl }
  move_act (StoreTo t u) h =
      let w = simple_worth s fits t h.0 in
      let v = simple_worth s fits u h.1 in
      record { fits = ((w.words, v.words), tt); acts = rw (w.worth, v.worth) refl }
  move_act (Ends (IfTwo t u r l)) h =
      let w = simple_worth s fits t h.0 in
      let v = simple_worth s fits u h.1 in
      let d = decided_act s (simple words same_register t).got (simple words same_register u).got r l w.words v.words
      in
      record {
        fits = d.fits;
        acts = d.acts ∙ ap (λ x. branch r l x (value s (simple words same_register u).got))
            w.worth ∙ ap (λ y. branch r l (value s t) y) v.worth;
      }
  move_act (Ends (GoTo l)) h = record { fits = (tt, tt); acts = refl }
  move_act (Ends (IfCc r l)) h = record { fits = (tt, tt); acts = refl }
  move_act (Ends (CallOf f n)) h = record { fits = (tt, tt); acts = refl }
  move_act (Ends Return) h = record { fits = (tt, tt); acts = refl }

  pub moves_act : (ms : List Step) → MovesHaveWords ms → DoesAs s (simple_moves words same_register ms).got ms
  moves_act [] h = record { words = tt; does = refl }
  moves_act (m ∷ ms) h =
      let a = move_act m h.0 in
      let b = moves_act ms h.1 in
      let xs = (simple_move words same_register m).got in
      let ys = (simple_moves words same_register ms).got in
      record {
        words = words-append xs ys a.fits b.words;
        does = actions-append s xs ys
            ∙ ap (λ zs. zs ++ actions s ys) a.acts ∙ ap (λ zs. action s m ++ zs) b.does;
      }

pub moves_kept : (ms rs : List Step) → rs ≡ (simple_moves words same_register ms).got → (s : State) → IsState s
    → MovesHaveWords ms → DoesAs s rs ms
moves_kept ms rs e s fits h = rw e (moves_act s fits ms h)
