-- The state of the code: its rules, its queue, and what learners hold.
use Rattle.std.proofs.Common.{◌≡◌, ◌≢◌, ◌↔◌, ℕ, ◌<◌, ◌≤◌, Bool, true, false, List, [], ◌∷◌, ◌++◌, map, take, drop}
use Rattle.std.proofs.Common.{length, All, Contains, get_or, slice_get, Option, Some, None, refl, sym, ◌∙◌, ap, subst}
use Rattle.std.proofs.Common.{arith, option_to_list}
use Rattle.std.specs.Prelude.{IsTrue, is_some, if◌then◌else◌, Result, Ok, Err}
use Rattle.po_word.specs.declared.memory.OutOfMemory.{OutOfMemory}
use mathlib.Core.Logic.{inl, inr}
use Rattle.std.proofs.lemmas.Bool.{lt-ltb, le-ltb, false≢true}
use Rattle.std.proofs.lemmas.List.{length-map, length-take-le, take-append-drop, take-append-le, drop-append-le}
use Rattle.std.proofs.lemmas.List.{take_all, drop_all, take-map, map-append}
use Rattle.std.proofs.lemmas.Option.{slice_get_within, get_or_from_slice_get}
use Rattle.std.proofs.lemmas.List.Elements.{All-contains}
use Rattle.std.specs.declared.alloc.Global.{Global}
use Rattle.std.specs.declared.sync.Arc.{Arc}
use Rattle.std.specs.Arc.{arc_value}
use Rattle.po_model.specs.declared.rule.Rule.{Rule}
use Rattle.po_model.specs.declared.pair.Pair.{Pair}
use Rattle.po_model.specs.Pairs.{PlainPair, pair_of}
use Rattle.po_model.specs.Holed.{PlainRule, rule_of}
use Rattle.po_model.specs.Learning.{put_to, LearnsTo}
use Rattle.po_table.specs.Tables.{shared}
use Rattle.po_core.specs.Fores.{PlainFore, AtFore, SetFore}
use Rattle.po_core.specs.Events.{PlainCore, IsOneOrNone, OnFore, HoldsOne, Holds}
use Rattle.po_core.specs.Went.{Went, Did}
use Rattle.po_core.specs.Views.{held_of}
use Rattle.po_core.proofs.Lists.{some_same, get_at}

-- Rules

pub shared_first : (n : ℕ) (rs : List (Arc Rule Global)) → shared (take n rs) ≡ take n (shared rs)
shared_first n rs = sym (take-map (λ r. rule_of (arc_value r)) n rs)

pub so_many : (n : ℕ) (rs : List (Arc Rule Global)) → n ≤ length rs → length (take n (shared rs)) ≡ n
so_many n rs h = length-take-le n (shared rs) (omega (arith, h, length-map rs (λ r. rule_of (arc_value r))))

pub all_rules : (n : ℕ) (rs : List PlainRule) → take n rs ++ drop n rs ≡ rs
all_rules n rs = take-append-drop n rs

-- all rules are published
pub all_published : (n k : ℕ) (rs : List PlainRule) → k ≡ length rs → take k rs ≡ take n rs ++ drop n rs
all_published n k rs e = take_all k rs (omega (arith, e)) ∙ sym (take-append-drop n rs)

pub none_pending : (k : ℕ) (rs : List PlainRule) → k ≡ length rs → drop k rs ≡ []
none_pending k rs e = drop_all k rs (omega (arith, e))

-- the rule at a place is one of these
pub contains_at : (rs : List PlainRule) (k : ℕ) (r : PlainRule) → slice_get rs k ≡ Some r → Contains rs r
contains_at rs k r e = (k, slice_get_within rs k r e, get_or_from_slice_get rs k r _ e)

-- a rule that is one of these isn't none of them
one_not_none : (rs : List PlainRule) (r : PlainRule) → Contains rs r → All (λ s. s ≢ r) rs → ⊥
one_not_none rs r h n = All-contains (λ s. s ≢ r) rs r n h refl

pub learns_known : (rs : List PlainRule) (r : PlainRule) → Contains rs r → LearnsTo [] rs r rs
learns_known rs r h = record { known = λ i. refl; fresh = λ n. absurd (one_not_none rs r h n) }

pub learns_fresh : (rs ss : List PlainRule) (r : PlainRule) → All (λ s. s ≢ r) rs → ss ≡ rs ++ r ∷ []
    → LearnsTo [] rs r ss
learns_fresh rs ss r n e = record { known = λ h. absurd (one_not_none rs r h n); fresh = λ m. e }

module _ (n : ℕ) (rs ss : List PlainRule) (r : PlainRule) (h : n ≤ length rs) where
  learned_pending : IsOneOrNone rs r → LearnsTo [] rs r ss → (take n ss ≡ take n rs)
      × LearnsTo (take n rs) (drop n rs) r (drop n ss)
  learned_pending (inl one) l = (
    ap (take n) (l.known one),
    record {
      known = λ i. ap (drop n) (l.known one);
      fresh = λ a. absurd (one_not_none rs r one (subst (All (λ s. s ≢ r)) (take-append-drop n rs) a));
    },
  )
  learned_pending (inr none) l = (
    ap (take n) (l.fresh none) ∙ take-append-le n rs (r ∷ []) h,
    record {
      known = λ i. absurd (one_not_none rs r (subst (λ xs. Contains xs r) (take-append-drop n rs) i) none);
      fresh = λ a. ap (drop n) (l.fresh none) ∙ drop-append-le n rs (r ∷ []) h;
    },
  )

  pub still_published : IsOneOrNone rs r → LearnsTo [] rs r ss → take n ss ≡ take n rs
  still_published o l = (learned_pending o l).0

  pub learns_pending : IsOneOrNone rs r → LearnsTo [] rs r ss → LearnsTo (take n rs) (drop n rs) r (drop n ss)
  learns_pending o l = (learned_pending o l).1

-- The queue

pub put_to_room : (room : ℕ) (q : List PlainPair) (p : PlainPair) → length q < room
    → put_to room q p ≡ Some (q ++ p ∷ [])
put_to_room room q p h = ap (λ b. if b then Some (q ++ p ∷ []) else None) (lt-ltb (length q) room h)

pub put_to_full : (room : ℕ) (q : List PlainPair) (p : PlainPair) → room ≤ length q → put_to room q p ≡ None
put_to_full room q p h = ap (λ b. if b then Some (q ++ p ∷ []) else None) (le-ltb (length q) room h)

-- the front of a queue, and what is left
pub first_of : (xs ys : List Pair) (r : Option Pair) (p : Pair) → xs ≡ option_to_list r ++ ys → r ≡ Some p
    → map pair_of xs ≡ pair_of p ∷ map pair_of ys
first_of xs ys r p e i = ap (map pair_of) (e ∙ ap (λ o. option_to_list o ++ ys) i)

-- one pair more
pub queue_more : (xs ys : List Pair) (p : Pair) → ys ≡ xs ++ p ∷ [] → map pair_of ys ≡ map pair_of xs ++ pair_of p ∷ []
queue_more xs ys p e = ap (map pair_of) e ∙ map-append pair_of xs (p ∷ [])

pub not_empty : {A : Type 0} (xs ys : List A) (x : A) → xs ≡ x ∷ ys → xs ≡ [] → ⊥
not_empty xs ys x e z = absurd (cc)

-- What learners hold

none_from : {A : Type 0} (o : Option A) → is_some o ≡ false → o ≡ None
none_from None h = refl
none_from (Some x) h = absurd (cc)

pub held_at : (xs : List (Option Pair)) (i : ℕ) (o : Option Pair) → i < length xs → o ≡ get_or xs i o
    → slice_get (map held_of xs) i ≡ Some (held_of o)
held_at xs i o h e = get_at held_of xs i o h ∙ ap (λ p. Some (held_of p)) (sym e)

pub held_none : (xs : List (Option Pair)) (i : ℕ) (o : Option Pair) → i < length xs → o ≡ get_or xs i o
    → is_some o ≡ false
    → slice_get (map held_of xs) i ≡ Some None
held_none xs i o h e n = held_at xs i o h e ∙ ap (λ p. Some (held_of p)) (none_from o n)

-- An event of one foreground, in the state

module _ (c : PlainCore) (i : ℕ) (fs gs hs : List PlainFore) (was : fs ≡ c.fores) (is : hs ≡ gs) where
  same_core : gs ≡ fs → record c { fores = hs } ≡ c
  same_core s = ap (λ x. record c { fores = x }) (is ∙ (s ∙ was))

  pub set_in : (E : PlainFore → PlainFore → Type 0) → SetFore fs i E gs → SetFore c.fores i E hs
  set_in E s = subst (SetFore c.fores i E) (sym is) (subst (λ x. SetFore x i E gs) was s)

  pub on_fore : (P : PlainFore → Type 0) (E : PlainFore → PlainFore → Type 0) (b : Bool)
      → Did b (AtFore fs i P) (SetFore fs i E gs) (gs ≡ fs)
      → Did b (AtFore c.fores i P) (OnFore c i E (record c { fores = hs })) (record c { fores = hs } ≡ c)
  on_fore P E true (p, s) = (subst (λ x. AtFore x i P) was p, (set_in E s, refl))
  on_fore P E false (n, s) = ((λ p. n (subst (λ x. AtFore x i P) (sym was) p)), same_core s)

  pub on_fore_or : (P : PlainFore → Type 0) (E : PlainFore → PlainFore → Type 0) (r : Result Bool OutOfMemory)
      → Went r (AtFore fs i P) (SetFore fs i E gs) (gs ≡ fs)
      → Went r (AtFore c.fores i P) (OnFore c i E (record c { fores = hs })) (record c { fores = hs } ≡ c)
  on_fore_or P E (Ok b) w = on_fore P E b w
  on_fore_or P E (Err e) s = same_core s

-- What becomes of the state

pub with_held : (c : PlainCore) (hs ks : List (Option PlainPair)) → hs ≡ ks
    → record c { held = hs } ≡ record c { held = ks }
with_held c hs ks e = ap (λ l. record c { held = l }) e

pub with_rules : (c : PlainCore) (ps qs pending : List PlainRule) (hs ks : List (Option PlainPair)) → ps ≡ qs → hs ≡ ks
    → record c { published = ps; pending = pending; held = hs } ≡ record c {
      published = qs;
      pending = pending;
      held =
          ks;
    }
with_rules c ps qs pending hs ks e f = ap (λ l. record c { published = l; pending = pending; held = hs }) e
    ∙ ap (λ l. record c { published = qs; pending = pending; held = l }) f

pub did_so : (b : Bool) (A E S : Type 0) → Did b A E S → b ≡ true → A × E
did_so true A E S w e = w
did_so false A E S w e = absurd (cc)

pub not_holds : (xs : List (Option Pair)) (i : ℕ) (o : Option Pair) (r q : PlainRule) (b : Bool) → i < length xs
    → o ≡ get_or xs i o
    → (IsTrue b ↔ HoldsOne (held_of o) q) → q ≡ r → b ≡ false → Holds (map held_of xs) i r → ⊥
not_holds xs i o r q b h e f same wrong (p, at, one) =
    let here : HoldsOne (held_of o) r = subst (λ x. HoldsOne x r) (some_same (sym at ∙ held_at xs i o h e)) one in
    false≢true (sym wrong ∙ f.1 (subst (HoldsOne (held_of o)) (sym same) here))

pub few_rules : (n : ℕ) (rs : List (Arc Rule Global)) → n ≤ length rs → n ≤ length (shared rs)
few_rules n rs h = omega (arith, h, length-map rs (λ r. rule_of (arc_value r)))
