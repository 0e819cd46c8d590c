-- The transfer of control of the list in the place of two instructions leads no further than that of the second.
use Rattle.std.proofs.Common.{◌≡◌, ℕ, Bool, true, false, List, [], ◌∷◌, ◌++◌, refl, sym, ◌∙◌, ap, subst}
use Rattle.std.specs.Prelude.{if◌then◌else◌, Option, Some, None, filter, ⊤}
use Rattle.std.specs.List.{list_any}
use Rattle.std.specs.Option.{option_or}
use Rattle.std.proofs.lemmas.Bool.{false≢true, true≢false}
use Rattle.po_word.specs.declared.operator.Rel.{Rel}
use Rattle.po_word.specs.Words.{rel_value}
use Rattle.po_term.specs.declared.term.Reg.{Reg as Register}
use Rattle.po_term.specs.declared.term.Sym.{Sym}
use Rattle.po_term.specs.declared.term.Label.{Label}
use Rattle.po_term.specs.Tree.{Const}
use Rattle.po_term.specs.Terms.{Place, PlainTerm}
use Rattle.po_term.specs.Moves.{Ending, GoTo, IfCc, IfTwo, CallOf, Return, SetTo, CcTo, StoreTo, Ends, PlainMove}
use Rattle.po_term.specs.Kinds.{words, Met, give}
use Rattle.po_term.specs.Simplified.{same_register, decided}
use Rattle.po_term.specs.Form.{WellFormed}
use Rattle.po_model.specs.declared.machine.Machine.{Machine}
use Rattle.po_model.specs.Blocks.{PlainBlock, target_by, goes_on, is_at}
use Rattle.po_model.specs.Parts.{code_leaves, cc_of, ending_of}
use Rattle.po_model.specs.Forward.{and_some, some_of, forward}
use Rattle.po_model.specs.Joined.{is_away, is_wanted, is_kept, assembled, forward_branch, forward_move, forward_moves}
use Rattle.po_model.specs.Joined.{joined}
use Rattle.po_model.specs.Pairs.{PlainPair, is_live_after, WellFormedPair}
use Rattle.po_model.specs.Combined.{combination}
use Rattle.po_subst.specs.KeepsEffect.{OfList}
use Rattle.po_subst.proofs.Alike.{Where, Two, IsSingle, some_where, where_at, or_false}
use Rattle.po_subst.proofs.Lookups.{ending_append}
use Rattle.po_subst.proofs.Joint.{simplified, wanted, Joining, joined_where, single_of, single_filter, none_filter}
use Rattle.po_subst.proofs.Joint.{ending_wanted_of, ending_kept_of, ending_listed}
use Rattle.po_slow.specs.KeepsEffect.{InPlace}
use Rattle.po_slow.proofs.Sound.{in_place}

-- wherever the first may lead, in any code, the second may lead
pub record NoFurther (new old : Option (Ending ℕ Place Sym)) : Type 0 where
  pub target : (bs : List PlainBlock) (q : ℕ) → is_at q (target_by bs new) ≡ true → is_at q (target_by bs old) ≡ true
  pub goes : goes_on new ≡ true → goes_on old ≡ true

pub no_further_self : (e : Option (Ending ℕ Place Sym)) → NoFurther e e
no_further_self e = record { target = λ bs q h. h; goes = λ h. h }

pub no_further_than : (e f g : Option (Ending ℕ Place Sym)) → NoFurther e f → NoFurther f g → NoFurther e g
no_further_than e f g h i =
    record { target = λ bs q k. i.target bs q (h.target bs q k); goes = λ k. i.goes (h.goes k) }

-- no transfer of control leads on alone
pub falls_through : (e : Option (Ending ℕ Place Sym)) → goes_on e ≡ true → NoFurther None e
falls_through e h = record { target = λ bs q k. absurd (false≢true k); goes = λ k. h }

-- Forwarding

-- what a transfer of control becomes: nothing where it goes on, or one that leads no further
abbrev IsLess : Ending ℕ Place Sym → List PlainMove → Type 0
IsLess e xs = NoFurther (ending_of xs) (Some e)

decided_less : (t u x y : PlainTerm) (rel : Rel) (l : Label)
    → IsLess (IfTwo t u rel l) (decided words same_register x y rel l).got
decided_less t u (Const c) (Const d) rel l = go (rel_value rel c d)
  where
    go : (b : Bool) → IsLess (IfTwo t u rel l) (if b then give {K = ℕ} (Ends (GoTo l) ∷ []) else give {K = ℕ} []).got
    go true = record { target = λ bs q h. h; goes = λ h. refl }
    go false = record { target = λ bs q h. absurd (false≢true h); goes = λ h. refl }
decided_less t u x y rel l = record { target = λ bs q h. h; goes = λ h. refl }

branch_less : (o : Option Two) (rel : Rel) (l : Label)
    → IsLess (IfCc rel l) (forward_branch words code_leaves o rel l).got
branch_less None rel l = record { target = λ bs q h. h; goes = λ h. refl }
branch_less (Some two) rel l =
    let d = decided_less two.0 two.1 two.0 two.1 rel l in
    record { target = λ bs q h. d.target bs q h; goes = λ h. refl }

-- one transfer of control, and none behind it
ends_less : (e : Ending ℕ Place Sym) (o p : Option (Ending ℕ Place Sym)) → NoFurther o (Some e) → NoFurther p None
    → NoFurther (option_or o p) (Some e)
ends_less e None None h i = h
ends_less e (Some f) p h i = h
ends_less e None (Some g) h i =
    record { target = λ bs q k. absurd (false≢true (i.target bs q k)); goes = λ k. h.goes refl }

some_where_any : {A : Type 0} (o : Option A) → Where o (λ x. ⊤)
some_where_any None = tt
some_where_any (Some x) = tt

module _ (a : List PlainMove) where
  -- two terms, one after the other, and what is made of them
  two_less : (Q : List PlainMove → Type 0) (t u : PlainTerm)
      (f : PlainTerm → PlainTerm → Met ℕ (Option (List PlainMove))) → ((x y : PlainTerm) → Where (f x y).got Q)
      → Where
      (and_some (forward words code_leaves a t) (λ x. and_some (forward words code_leaves a u) (λ y. f x y))).got Q
  two_less Q t u f h =
      some_where (λ x. ⊤) Q (forward words code_leaves a t)
      (λ x. and_some (forward words code_leaves a u) (λ y. f x y))
      (some_where_any (forward words code_leaves a t).got)
      (λ x v. some_where (λ y. ⊤) Q (forward words code_leaves a u) (λ y. f x y)
      (some_where_any (forward words code_leaves a u).got) (λ y w. h x y))

  -- what one transfer becomes, with what the others behind it become
  abbrev Behind : PlainMove → List PlainMove → Type 0
  Behind m xs =
      (ms ys : List PlainMove) → IsSingle (m ∷ ms) → NoFurther (ending_of ys) (ending_of ms)
      → NoFurther (ending_of (xs ++ ys)) (ending_of (m ∷ ms))

  ends_behind : (e : Ending ℕ Place Sym) (xs : List PlainMove) → IsLess e xs → Behind (Ends e) xs
  ends_behind e xs h ms ys single i =
      rw (ending_append xs ys) (ends_less e (ending_of xs) (ending_of ys) h
      (subst (λ (o : Option (Ending ℕ Place Sym)). NoFurther (ending_of ys) o) single.0 i))

  move_behind : (m : PlainMove) → is_away m ≡ false → Where (forward_move words code_leaves a m).got (Behind m)
  move_behind (SetTo r t) n =
      some_where (λ x. ⊤) (Behind (SetTo r t)) (forward words code_leaves a t) (λ x. give (Some (SetTo r x ∷ [])))
      (some_where_any (forward words code_leaves a t).got) (λ x v ms ys s i. i)
  move_behind (CcTo t u) n = two_less (Behind (CcTo t u)) t u (λ x y. give (Some (CcTo x y ∷ []))) (λ x y ms ys s i. i)
  move_behind (StoreTo t u) n =
      two_less (Behind (StoreTo t u)) t u (λ x y. give (Some (StoreTo x y ∷ []))) (λ x y ms ys s i. i)
  move_behind (Ends (IfTwo t u r l)) n =
      two_less (Behind (Ends (IfTwo t u r l))) t u (λ x y. some_of (decided words same_register x y r l))
      (λ x y. ends_behind (IfTwo t u r l) (decided words same_register x y r l).got (decided_less t u x y r l))
  move_behind (Ends (IfCc r l)) n =
      ends_behind (IfCc r l) (forward_branch words code_leaves (cc_of a) r l).got (branch_less (cc_of a) r l)
  move_behind (Ends (GoTo l)) n = ends_behind (GoTo l) (Ends (GoTo l) ∷ []) (no_further_self (Some (GoTo l)))
  move_behind (Ends (CallOf f k)) n = absurd (true≢false n)
  move_behind (Ends Return) n = absurd (true≢false n)

  single_rest : (m : PlainMove) (ms : List PlainMove) → IsSingle (m ∷ ms) → IsSingle ms
  single_rest (SetTo r t) ms h = h.1
  single_rest (CcTo t u) ms h = h.1
  single_rest (StoreTo t u) ms h = h.1
  single_rest (Ends e) ms h = h.1

  forwarded_less : (ms : List PlainMove) → list_any is_away ms ≡ false → IsSingle ms
      → Where (forward_moves words code_leaves a ms).got (λ ys. NoFurther (ending_of ys) (ending_of ms))
  forwarded_less [] n s = no_further_self None
  forwarded_less (m ∷ ms) n s =
      let k = or_false (is_away m) (list_any is_away ms) n in
      some_where (Behind m) (λ zs. NoFurther (ending_of zs) (ending_of (m ∷ ms))) (forward_move words code_leaves a m)
      (λ xs. and_some (forward_moves words code_leaves a ms) (λ ys. give (Some (xs ++ ys)))) (move_behind m k.0)
      (
      λ xs b. some_where (λ ys. NoFurther (ending_of ys) (ending_of ms))
      (λ zs. NoFurther (ending_of zs) (ending_of (m ∷ ms))) (forward_moves words code_leaves a ms)
      (λ ys. give (Some (xs ++ ys))) (forwarded_less ms k.1 (single_rest m ms s))
      (λ ys i. b ms ys s i))

-- The joint list

module _ (live : Register → Bool) (cc_live : Bool) (a b : List PlainMove) (form : WellFormed b) where
  list_less : (f : List PlainMove) → Joining live cc_live a b f
      → NoFurther
      (ending_of (assembled code_leaves live cc_live (simplified live cc_live a b) (wanted live cc_live a b) f))
      (ending_of b)
  list_less f j =
      let simple_a = simplified live cc_live a b in
      let wanted_b = wanted live cc_live a b in
      let kept = filter (is_kept code_leaves live cc_live wanted_b) simple_a in
      let list = assembled code_leaves live cc_live simple_a wanted_b f in
      let ending_list : ending_of list ≡ ending_of f = ending_listed (kept ++ f) ∙ ending_append kept f
      ∙ ap (λ o. option_or o (ending_of f)) (ending_kept_of live cc_live wanted_b simple_a) in
      let less = where_at (λ ys. NoFurther (ending_of ys) (ending_of wanted_b))
      (forward_moves words code_leaves simple_a wanted_b).got f j.made
      (forwarded_less simple_a wanted_b (none_filter is_away (is_wanted live cc_live) b j.no_away)
      (single_filter (is_wanted live cc_live) b (single_of b form.pairs))) in
      subst (λ (o : Option (Ending ℕ Place Sym)). NoFurther o (ending_of b)) (sym ending_list)
      (subst (λ (o : Option (Ending ℕ Place Sym)). NoFurther (ending_of f) o) (ending_wanted_of live cc_live b) less)

  joined_less : OfList (joined words code_leaves live cc_live a b).got (λ j. NoFurther (ending_of j) (ending_of b))
  joined_less = joined_where live cc_live a b (λ j. NoFurther (ending_of j) (ending_of b)) list_less

-- what stands in the place of a pair leads no further than its second instruction
pub combination_less : (m : Machine) (p : PlainPair) → WellFormedPair p
    → InPlace (combination m p) (λ j. NoFurther (ending_of j) (ending_of p.b))
combination_less m p h =
    in_place m p.cc (λ j. NoFurther (ending_of j) (ending_of p.b))
    (joined words code_leaves (is_live_after p) p.cc p.a p.b).got
    (joined_less (is_live_after p) p.cc p.a p.b h.second)
