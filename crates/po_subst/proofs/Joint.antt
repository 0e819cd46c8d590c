-- What is known where two instructions come to one list, and what of the first stays beside the second.
use Rattle.std.proofs.Common.{◌≡◌, ℕ, Bool, true, false, List, [], ◌∷◌, ◌++◌, All, AllPairs, refl, sym, ◌∙◌, ap, arith}
use Rattle.std.specs.Prelude.{not, ◌||◌, ◌&&◌, is_some, if◌then◌else◌, Option, Some, None, filter}
use Rattle.std.specs.List.{list_any}
use Rattle.std.specs.Option.{option_or}
use Rattle.std.proofs.lemmas.Bool.{false≢true}
use Rattle.std.proofs.lemmas.List.Elements.{All-head, All-tail}
use Rattle.po_term.specs.declared.term.Reg.{Reg as Register}
use Rattle.po_term.specs.declared.term.Sym.{Sym}
use Rattle.po_term.specs.Tree.{Const, Leaf, Read, Unary, Binary}
use Rattle.po_term.specs.Terms.{Place, InReg, State, PlainTerm}
use Rattle.po_term.specs.Moves.{GoTo, IfCc, IfTwo, CallOf, Return, SetTo, CcTo, StoreTo, Ends, PlainMove}
use Rattle.po_term.specs.Kinds.{words, give, and_then}
use Rattle.po_term.specs.Simplified.{reg_eq, same_register, simple_moves}
use Rattle.po_term.specs.Form.{GoesBefore, WellFormedMove}
use Rattle.po_term.specs.Actions.{MoveHasWords, MovesHaveWords}
use Rattle.po_term.proofs.FormLemmas.{pairs_more}
use Rattle.po_model.specs.Parts.{code_leaves, right_at, cc_of, store_of, ending_of}
use Rattle.po_model.specs.Effect.{new_word}
use Rattle.po_model.specs.Keeps.{live_at}
use Rattle.po_model.specs.Joined.{NotJoined, is_control, is_away, is_idle, is_wanted, is_kept, covers, in_order}
use Rattle.po_model.specs.Joined.{listed, assembled, forward_moves, with_forwarded, join_simple, joined}
use Rattle.po_subst.specs.Order.{is_moving}
use Rattle.po_subst.specs.KeepsEffect.{OfList}
use Rattle.po_subst.proofs.Agreeing.{one_register, one_place}
use Rattle.po_subst.proofs.InOrder.{listing_moving}
use Rattle.po_subst.proofs.Lookups.{right_in, cc_in, store_in, ending_in, right_filter, cc_filter, store_filter}
use Rattle.po_subst.proofs.Lookups.{ending_filter, right_none, cc_none, store_none, ending_none, right_append}
use Rattle.po_subst.proofs.Lookups.{cc_append, store_append, right_order, cc_order, store_order, ending_order}
use Rattle.po_subst.proofs.Alike.{IsSingle, none_of, or_false}

module _ (live : Register → Bool) (cc_live : Bool) (a b : List PlainMove) where
  -- A simplified, and B without what isn't live
  abbrev pub simplified : List PlainMove
  simplified = (simple_moves words same_register a).got

  abbrev pub wanted : List PlainMove
  wanted = filter (is_wanted live cc_live) b

  -- the two come to a list, where B is this one with its terms forwarded
  pub record Joining (forwarded : List PlainMove) : Type 0 where
    pub no_control : list_any is_control a ≡ false
    pub no_away : list_any is_away b ≡ false
    pub made : (forward_moves words code_leaves simplified wanted).got ≡ Some forwarded
    pub covered : (covers words code_leaves (store_of simplified) (store_of forwarded)).got ≡ true

  -- what holds of the list
  pub joined_where : (Q : List PlainMove → Type 0)
      → ((forwarded : List PlainMove) → Joining forwarded
      → Q (assembled code_leaves live cc_live simplified wanted forwarded))
      → OfList (joined words code_leaves live cc_live a b).got Q
  joined_where Q h = go (list_any is_control a || list_any is_away b) refl
    where
      of_list : (j : List PlainMove) → Q j → OfList (listed j) Q
      of_list [] q = q
      of_list (m ∷ ms) q = q

      by_covers : (list_any is_control a ≡ false) × (list_any is_away b ≡ false) → (f : List PlainMove)
          → (forward_moves words code_leaves simplified wanted).got ≡ Some f → (yes : Bool)
          → (covers words code_leaves (store_of simplified) (store_of f)).got ≡ yes
          → OfList (if yes then listed (assembled code_leaves live cc_live simplified wanted f) else NotJoined) Q
      by_covers n f e true i =
          of_list (assembled code_leaves live cc_live simplified wanted f)
          (h f (record { no_control = n.0; no_away = n.1; made = e; covered = i }))
      by_covers n f e false i = tt

      by_forwarded : (list_any is_control a ≡ false) × (list_any is_away b ≡ false) → (o : Option (List PlainMove))
          → (forward_moves words code_leaves simplified wanted).got ≡ o
          → OfList (with_forwarded words code_leaves live cc_live simplified wanted o).got Q
      by_forwarded n None e = tt
      by_forwarded n (Some f) e =
          by_covers n f e (covers words code_leaves (store_of simplified) (store_of f)).got refl

      go : (c : Bool) → (list_any is_control a || list_any is_away b) ≡ c
          → OfList
          (if c then give {K = ℕ} NotJoined
          else and_then (simple_moves words same_register a)
          (λ simple_a. join_simple words code_leaves live cc_live simple_a wanted)).got Q
      go true e = tt
      go false e =
          by_forwarded (or_false (list_any is_control a) (list_any is_away b) e)
          (forward_moves words code_leaves simplified wanted).got refl

-- what a well-formed instruction has at most one of
no_right : (r : Register) (t : PlainTerm) (ms : List PlainMove) → All (GoesBefore (SetTo r t)) ms
    → right_at code_leaves (InReg r) ms ≡ None
no_right r t [] h = refl
no_right r t (SetTo q u ∷ ms) h =
    go (reg_eq r q) refl (no_right r t ms (All-tail (GoesBefore (SetTo r t)) (SetTo q u) ms h))
  where
    go : (c : Bool) → reg_eq r q ≡ c → right_at code_leaves (InReg r) ms ≡ None
        → (if c then Some u else right_at code_leaves (InReg r) ms) ≡ None
    go true e ih =
        absurd ((All-head (GoesBefore (SetTo r t)) (SetTo q u) ms h).apart r refl (sym (one_register r q e)))
    go false e ih = ih
no_right r t (CcTo u v ∷ ms) h = no_right r t ms (All-tail (GoesBefore (SetTo r t)) (CcTo u v) ms h)
no_right r t (StoreTo u v ∷ ms) h = no_right r t ms (All-tail (GoesBefore (SetTo r t)) (StoreTo u v) ms h)
no_right r t (Ends e ∷ ms) h = no_right r t ms (All-tail (GoesBefore (SetTo r t)) (Ends e) ms h)

no_cc : (t u : PlainTerm) (ms : List PlainMove) → All (GoesBefore (CcTo t u)) ms → cc_of ms ≡ None
no_cc t u [] h = refl
no_cc t u (CcTo v w ∷ ms) h =
    let e : ◌≡◌ {A = ℕ} 1 0 = (All-head (GoesBefore (CcTo t u)) (CcTo v w) ms h).once refl in absurd (omega arith)
no_cc t u (SetTo q v ∷ ms) h = no_cc t u ms (All-tail (GoesBefore (CcTo t u)) (SetTo q v) ms h)
no_cc t u (StoreTo v w ∷ ms) h = no_cc t u ms (All-tail (GoesBefore (CcTo t u)) (StoreTo v w) ms h)
no_cc t u (Ends e ∷ ms) h = no_cc t u ms (All-tail (GoesBefore (CcTo t u)) (Ends e) ms h)

no_store : (t u : PlainTerm) (ms : List PlainMove) → All (GoesBefore (StoreTo t u)) ms → store_of ms ≡ None
no_store t u [] h = refl
no_store t u (StoreTo v w ∷ ms) h =
    let e : ◌≡◌ {A = ℕ} 2 0 = (All-head (GoesBefore (StoreTo t u)) (StoreTo v w) ms h).once refl in
    absurd (omega arith)
no_store t u (SetTo q v ∷ ms) h = no_store t u ms (All-tail (GoesBefore (StoreTo t u)) (SetTo q v) ms h)
no_store t u (CcTo v w ∷ ms) h = no_store t u ms (All-tail (GoesBefore (StoreTo t u)) (CcTo v w) ms h)
no_store t u (Ends e ∷ ms) h = no_store t u ms (All-tail (GoesBefore (StoreTo t u)) (Ends e) ms h)

no_ending : (x : _) (ms : List PlainMove) → All (GoesBefore (Ends x)) ms → ending_of ms ≡ None
no_ending x [] h = refl
no_ending x (Ends e ∷ ms) h =
    let i : ◌≡◌ {A = ℕ} 3 0 = (All-head (GoesBefore (Ends x)) (Ends e) ms h).once refl in absurd (omega arith)
no_ending x (SetTo q v ∷ ms) h = no_ending x ms (All-tail (GoesBefore (Ends x)) (SetTo q v) ms h)
no_ending x (CcTo v w ∷ ms) h = no_ending x ms (All-tail (GoesBefore (Ends x)) (CcTo v w) ms h)
no_ending x (StoreTo v w ∷ ms) h = no_ending x ms (All-tail (GoesBefore (Ends x)) (StoreTo v w) ms h)

pub single_of : (ms : List PlainMove) → AllPairs GoesBefore ms → IsSingle ms
single_of [] h = tt
single_of (SetTo r t ∷ ms) h =
    let p = (pairs_more GoesBefore (SetTo r t) ms).0 h in (no_right r t ms p.0, single_of ms p.1)
single_of (CcTo t u ∷ ms) h = let p = (pairs_more GoesBefore (CcTo t u) ms).0 h in (no_cc t u ms p.0, single_of ms p.1)
single_of (StoreTo t u ∷ ms) h =
    let p = (pairs_more GoesBefore (StoreTo t u) ms).0 h in (no_store t u ms p.0, single_of ms p.1)
single_of (Ends e ∷ ms) h = let p = (pairs_more GoesBefore (Ends e) ms).0 h in (no_ending e ms p.0, single_of ms p.1)

one_has : (m : PlainMove) → WellFormedMove m → MoveHasWords m
one_has (SetTo r t) h = h.2.words
one_has (CcTo t u) h = (h.0.words, h.1.words)
one_has (StoreTo t u) h = (h.0.words, h.1.words)
one_has (Ends (GoTo l)) h = tt
one_has (Ends (IfCc r l)) h = tt
one_has (Ends (IfTwo t u r l)) h = (h.0.words, h.1.words)
one_has (Ends (CallOf f n)) h = tt
one_has (Ends Return) h = tt

pub words_of : (ms : List PlainMove) → All WellFormedMove ms → MovesHaveWords ms
words_of [] h = tt
words_of (m ∷ ms) h = (one_has m (All-head WellFormedMove m ms h), words_of ms (All-tail WellFormedMove m ms h))

pub words_append : (xs ys : List PlainMove) → MovesHaveWords xs → MovesHaveWords ys → MovesHaveWords (xs ++ ys)
words_append [] ys h i = i
words_append (x ∷ xs) ys h i = (h.0, words_append xs ys h.1 i)

pub words_filter : (q : PlainMove → Bool) (ms : List PlainMove) → MovesHaveWords ms → MovesHaveWords (filter q ms)
words_filter q [] h = tt
words_filter q (m ∷ ms) h = go (q m) (words_filter q ms h.1)
  where
    go : (c : Bool) → MovesHaveWords (filter q ms) → MovesHaveWords (if c then m ∷ filter q ms else filter q ms)
    go true i = (h.0, i)
    go false i = i

-- what no transfer passes, none of a part passes
pub none_filter : (p q : PlainMove → Bool) (ms : List PlainMove) → list_any p ms ≡ false
    → list_any p (filter q ms) ≡ false
none_filter p q [] h = refl
none_filter p q (m ∷ ms) h = let k = or_false (p m) (list_any p ms) h in go (q m) k.0 (none_filter p q ms k.1)
  where
    go : (c : Bool) → p m ≡ false → list_any p (filter q ms) ≡ false
        → list_any p (if c then m ∷ filter q ms else filter q ms) ≡ false
    go true e i = rw (e, i) refl
    go false e i = i

pub single_filter : (q : PlainMove → Bool) (ms : List PlainMove) → IsSingle ms → IsSingle (filter q ms)
single_filter q [] h = tt
single_filter q (SetTo r t ∷ ms) h = go (q (SetTo r t)) (single_filter q ms h.1)
  where
    go : (c : Bool) → IsSingle (filter q ms) → IsSingle (if c then SetTo r t ∷ filter q ms else filter q ms)
    go true i = (right_none q (InReg r) ms h.0, i)
    go false i = i
single_filter q (CcTo t u ∷ ms) h = go (q (CcTo t u)) (single_filter q ms h.1)
  where
    go : (c : Bool) → IsSingle (filter q ms) → IsSingle (if c then CcTo t u ∷ filter q ms else filter q ms)
    go true i = (cc_none q ms h.0, i)
    go false i = i
single_filter q (StoreTo t u ∷ ms) h = go (q (StoreTo t u)) (single_filter q ms h.1)
  where
    go : (c : Bool) → IsSingle (filter q ms) → IsSingle (if c then StoreTo t u ∷ filter q ms else filter q ms)
    go true i = (store_none q ms h.0, i)
    go false i = i
single_filter q (Ends e ∷ ms) h = go (q (Ends e)) (single_filter q ms h.1)
  where
    go : (c : Bool) → IsSingle (filter q ms) → IsSingle (if c then Ends e ∷ filter q ms else filter q ms)
    go true i = (ending_none q ms h.0, i)
    go false i = i

module _ (live : Register → Bool) (cc_live : Bool) where
  -- what is wanted of B at a place
  found_wanted : (p : Place) (m : PlainMove) → is_some (right_in p m) ≡ true
      → is_wanted live cc_live m ≡ live_at live p
  found_wanted p (SetTo r t) e = go (same_register p (InReg r)) refl e
    where
      go : (c : Bool) → same_register p (InReg r) ≡ c → is_some (if c then Some t else None) ≡ true
          → live r ≡ live_at live p
      go true i k = sym (ap (live_at live) (one_place p (InReg r) i))
      go false i k = absurd (false≢true k)
  found_wanted p (CcTo t u) e = absurd (false≢true e)
  found_wanted p (StoreTo t u) e = absurd (false≢true e)
  found_wanted p (Ends x) e = absurd (false≢true e)

  pub right_wanted_at : (p : Place) (b : List PlainMove)
      → right_at code_leaves p (filter (is_wanted live cc_live) b)
      ≡ (if live_at live p then right_at code_leaves p b else None)
  right_wanted_at p b = right_filter (is_wanted live cc_live) (live_at live p) p (found_wanted p) b

  pub cc_wanted_of : (b : List PlainMove)
      → cc_of (filter (is_wanted live cc_live) b) ≡ (if cc_live then cc_of b else None)
  cc_wanted_of b = cc_filter (is_wanted live cc_live) cc_live found b
    where
      found : (m : PlainMove) → is_some (cc_in m) ≡ true → is_wanted live cc_live m ≡ cc_live
      found (SetTo r t) e = absurd (false≢true e)
      found (CcTo t u) e = refl
      found (StoreTo t u) e = absurd (false≢true e)
      found (Ends x) e = absurd (false≢true e)

  pub store_wanted_of : (b : List PlainMove) → store_of (filter (is_wanted live cc_live) b) ≡ store_of b
  store_wanted_of b = store_filter (is_wanted live cc_live) true found b
    where
      found : (m : PlainMove) → is_some (store_in m) ≡ true → is_wanted live cc_live m ≡ true
      found (SetTo r t) e = absurd (false≢true e)
      found (CcTo t u) e = absurd (false≢true e)
      found (StoreTo t u) e = refl
      found (Ends x) e = absurd (false≢true e)

  pub ending_wanted_of : (b : List PlainMove) → ending_of (filter (is_wanted live cc_live) b) ≡ ending_of b
  ending_wanted_of b = ending_filter (is_wanted live cc_live) true found b
    where
      found : (m : PlainMove) → is_some (ending_in m) ≡ true → is_wanted live cc_live m ≡ true
      found (SetTo r t) e = absurd (false≢true e)
      found (CcTo t u) e = absurd (false≢true e)
      found (StoreTo t u) e = absurd (false≢true e)
      found (Ends x) e = refl

  module _ (w : List PlainMove) where
    -- A's set at a place stays beside w
    abbrev pub stays_at : Place → Bool
    stays_at p = live_at live p && not (is_some (right_at code_leaves p w))

    found_kept : (p : Place) (m : PlainMove) → is_some (right_in p m) ≡ true
        → is_kept code_leaves live cc_live w m ≡ stays_at p
    found_kept p (SetTo r t) e = go (same_register p (InReg r)) refl e
      where
        go : (c : Bool) → same_register p (InReg r) ≡ c → is_some (if c then Some t else None) ≡ true
            → stays_at (InReg r) ≡ stays_at p
        go true i k = sym (ap stays_at (one_place p (InReg r) i))
        go false i k = absurd (false≢true k)
    found_kept p (CcTo t u) e = absurd (false≢true e)
    found_kept p (StoreTo t u) e = absurd (false≢true e)
    found_kept p (Ends x) e = absurd (false≢true e)

    pub right_kept_at : (p : Place) (ms : List PlainMove)
        → right_at code_leaves p (filter (is_kept code_leaves live cc_live w) ms)
        ≡ (if stays_at p then right_at code_leaves p ms else None)
    right_kept_at p ms = right_filter (is_kept code_leaves live cc_live w) (stays_at p) p (found_kept p) ms

    pub cc_kept_of : (ms : List PlainMove)
        → cc_of (filter (is_kept code_leaves live cc_live w) ms)
        ≡ (if cc_live && not (is_some (cc_of w)) then cc_of ms else None)
    cc_kept_of ms = cc_filter (is_kept code_leaves live cc_live w) (cc_live && not (is_some (cc_of w))) found ms
      where
        found : (m : PlainMove) → is_some (cc_in m) ≡ true
            → is_kept code_leaves live cc_live w m ≡ (cc_live && not (is_some (cc_of w)))
        found (SetTo r t) e = absurd (false≢true e)
        found (CcTo t u) e = refl
        found (StoreTo t u) e = absurd (false≢true e)
        found (Ends x) e = absurd (false≢true e)

    pub store_kept_of : (ms : List PlainMove)
        → store_of (filter (is_kept code_leaves live cc_live w) ms)
        ≡ (if not (is_some (store_of w)) then store_of ms else None)
    store_kept_of ms = store_filter (is_kept code_leaves live cc_live w) (not (is_some (store_of w))) found ms
      where
        found : (m : PlainMove) → is_some (store_in m) ≡ true
            → is_kept code_leaves live cc_live w m ≡ not (is_some (store_of w))
        found (SetTo r t) e = absurd (false≢true e)
        found (CcTo t u) e = absurd (false≢true e)
        found (StoreTo t u) e = refl
        found (Ends x) e = absurd (false≢true e)

    pub ending_kept_of : (ms : List PlainMove) → ending_of (filter (is_kept code_leaves live cc_live w) ms) ≡ None
    ending_kept_of ms = ending_filter (is_kept code_leaves live cc_live w) false found ms
      where
        found : (m : PlainMove) → is_some (ending_in m) ≡ true → is_kept code_leaves live cc_live w m ≡ false
        found (SetTo r t) e = absurd (false≢true e)
        found (CcTo t u) e = absurd (false≢true e)
        found (StoreTo t u) e = absurd (false≢true e)
        found (Ends x) e = refl

    module _ (f : List PlainMove) (single : IsSingle f)
        (right_like : (p : Place) → is_some (right_at code_leaves p f) ≡ is_some (right_at code_leaves p w))
        (cc_like : is_some (cc_of f) ≡ is_some (cc_of w))
        (store_like : is_some (store_of f) ≡ is_some (store_of w)) where
      -- neither is there
      neither : {X : Type 0} (o p : Option X) → o ≡ None → p ≡ None → option_or o p ≡ None
      neither o p e i = rw (e, i) refl

      -- where w has none, f has none
      none_there : {X : Type 0} (c d : Bool) (o : Option X) → (c && not d) ≡ true → is_some o ≡ d → o ≡ None
      none_there true false o e i = none_of o i
      none_there true true o e i = absurd (false≢true e)
      none_there false d o e i = absurd (false≢true e)

      -- with what stays of A before it, it has still one of each
      pub single_beside : (ms : List PlainMove) → IsSingle ms
          → IsSingle (filter (is_kept code_leaves live cc_live w) ms ++ f)
      single_beside [] h = single
      single_beside (SetTo r t ∷ ms) h = go (stays_at (InReg r)) refl (single_beside ms h.1)
        where
          go : (c : Bool) → stays_at (InReg r) ≡ c → IsSingle (filter (is_kept code_leaves live cc_live w) ms ++ f)
              → IsSingle ((if c then SetTo r t ∷ filter (is_kept code_leaves live cc_live w) ms
              else filter (is_kept code_leaves live cc_live w) ms) ++ f)
          go true e i = (
            right_append (InReg r) (filter (is_kept code_leaves live cc_live w) ms) f
                ∙ neither (right_at code_leaves (InReg r) (filter (is_kept code_leaves live cc_live w) ms))
                (right_at code_leaves (InReg r) f)
                (right_none (is_kept code_leaves live cc_live w) (InReg r) ms h.0)
                (none_there (live r) (is_some (right_at code_leaves (InReg r) w))
                (right_at code_leaves (InReg r) f) e (right_like (InReg r))),
            i,
          )
          go false e i = i
      single_beside (CcTo t u ∷ ms) h = go (cc_live && not (is_some (cc_of w))) refl (single_beside ms h.1)
        where
          go : (c : Bool) → (cc_live && not (is_some (cc_of w))) ≡ c
              → IsSingle (filter (is_kept code_leaves live cc_live w) ms ++ f)
              → IsSingle ((if c then CcTo t u ∷ filter (is_kept code_leaves live cc_live w) ms
              else filter (is_kept code_leaves live cc_live w) ms) ++ f)
          go true e i = (
            cc_append (filter (is_kept code_leaves live cc_live w) ms) f
                ∙ neither (cc_of (filter (is_kept code_leaves live cc_live w) ms)) (cc_of f)
                (cc_none (is_kept code_leaves live cc_live w) ms h.0)
                (none_there cc_live (is_some (cc_of w)) (cc_of f) e cc_like),
            i,
          )
          go false e i = i
      single_beside (StoreTo t u ∷ ms) h = go (not (is_some (store_of w))) refl (single_beside ms h.1)
        where
          go : (c : Bool) → not (is_some (store_of w)) ≡ c
              → IsSingle (filter (is_kept code_leaves live cc_live w) ms ++ f)
              → IsSingle ((if c then StoreTo t u ∷ filter (is_kept code_leaves live cc_live w) ms
              else filter (is_kept code_leaves live cc_live w) ms) ++ f)
          go true e i = (
            store_append (filter (is_kept code_leaves live cc_live w) ms) f
                ∙ neither (store_of (filter (is_kept code_leaves live cc_live w) ms)) (store_of f)
                (store_none (is_kept code_leaves live cc_live w) ms h.0)
                (none_there true (is_some (store_of w)) (store_of f) e store_like),
            i,
          )
          go false e i = i
      single_beside (Ends e ∷ ms) h = single_beside ms h.1

-- a set of a register to itself
pub idle_right : (r : Register) (t : PlainTerm) → is_idle {S = Sym} code_leaves (SetTo r t) ≡ true → t ≡ Leaf (InReg r)
idle_right r (Leaf l) e = ap Leaf (one_place l (InReg r) e)
idle_right r (Const c) e = absurd (false≢true e)
idle_right r (Read x) e = absurd (false≢true e)
idle_right r (Unary o x) e = absurd (false≢true e)
idle_right r (Binary o x y) e = absurd (false≢true e)

-- leaving it out changes no word
pub moving_word : (s : State) (p : Place) (ms : List PlainMove) → IsSingle ms
    → new_word s (right_at code_leaves p (filter is_moving ms)) (s.place p)
    ≡ new_word s (right_at code_leaves p ms) (s.place p)
moving_word s p [] h = refl
moving_word s p (SetTo r t ∷ ms) h =
    go (is_idle {S = Sym} code_leaves (SetTo r t)) refl (same_register p (InReg r)) refl (moving_word s p ms h.1)
  where
    unset : p ≡ InReg r → new_word s (right_at code_leaves p ms) (s.place p) ≡ s.place p
    unset i = ap (λ o. new_word s o (s.place p)) (ap (λ q. right_at code_leaves q ms) i ∙ h.0)

    go : (idle : Bool) → is_idle {S = Sym} code_leaves (SetTo r t) ≡ idle → (same : Bool)
        → same_register p (InReg r) ≡ same
        → new_word s (right_at code_leaves p (filter is_moving ms)) (s.place p)
        ≡ new_word s (right_at code_leaves p ms) (s.place p)
        → new_word s
        (right_at code_leaves p (if not idle then SetTo r t ∷ filter is_moving ms else filter is_moving ms))
        (s.place p) ≡ new_word s (if same then Some t else right_at code_leaves p ms) (s.place p)
    go true e true i ih =
        let q = one_place p (InReg r) i in
        rw (idle_right r t e) (ih ∙ unset q ∙ ap (λ l. s.place l) q)
    go true e false i ih = ih
    go false e true i ih = rw i refl
    go false e false i ih = rw i ih
moving_word s p (CcTo t u ∷ ms) h = moving_word s p ms h.1
moving_word s p (StoreTo t u ∷ ms) h = moving_word s p ms h.1
moving_word s p (Ends e ∷ ms) h = moving_word s p ms h.1

-- the parts of a list in order without such sets
pub right_listed : (p : Place) (ms : List PlainMove)
    → right_at code_leaves p (filter is_moving (in_order ms)) ≡ right_at code_leaves p (filter is_moving ms)
right_listed p ms = ap (right_at code_leaves p) (sym (listing_moving ms)) ∙ right_order p (filter is_moving ms)

pub cc_listed : (ms : List PlainMove) → cc_of (filter is_moving (in_order ms)) ≡ cc_of ms
cc_listed ms = cc_filter is_moving true found (in_order ms) ∙ cc_order ms
  where
    found : (m : PlainMove) → is_some (cc_in m) ≡ true → is_moving m ≡ true
    found (SetTo r t) e = absurd (false≢true e)
    found (CcTo t u) e = refl
    found (StoreTo t u) e = refl
    found (Ends x) e = refl

pub store_listed : (ms : List PlainMove) → store_of (filter is_moving (in_order ms)) ≡ store_of ms
store_listed ms = store_filter is_moving true found (in_order ms) ∙ store_order ms
  where
    found : (m : PlainMove) → is_some (store_in m) ≡ true → is_moving m ≡ true
    found (SetTo r t) e = absurd (false≢true e)
    found (CcTo t u) e = refl
    found (StoreTo t u) e = refl
    found (Ends x) e = refl

pub ending_listed : (ms : List PlainMove) → ending_of (filter is_moving (in_order ms)) ≡ ending_of ms
ending_listed ms = ending_filter is_moving true found (in_order ms) ∙ ending_order ms
  where
    found : (m : PlainMove) → is_some (ending_in m) ≡ true → is_moving m ≡ true
    found (SetTo r t) e = absurd (false≢true e)
    found (CcTo t u) e = refl
    found (StoreTo t u) e = refl
    found (Ends x) e = refl
