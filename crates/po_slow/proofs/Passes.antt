-- How a fact of all passes over a code is shown, whatever safe answers the pairs get: by the steps of a scan within a
-- block.
use Rattle.std.proofs.Common.{◌≡◌, ℕ, zero, suc, ◌<◌, Bool, true, false, List, [], ◌∷◌, ◌++◌, length, reverse, map}
use Rattle.std.proofs.Common.{refl, sym, ◌∙◌, ap, subst, arith, eqb-true}
use Rattle.std.proofs.lemmas.Bool.{eqb-false}
use Rattle.std.specs.Prelude.{if◌then◌else◌, ◌==◌, Option, Some, ⊤}
use Rattle.std.proofs.lemmas.List.{length-reverse, reverse-append, reverse-reverse}
use mathlib.Core.Logic.{◌⊎◌, inl, inr}
use Rattle.po_term.specs.declared.term.Label.{Label}
use Rattle.po_model.specs.declared.machine.Machine.{Machine}
use Rattle.po_model.specs.declared.var.Var.{Var}
use Rattle.po_model.specs.Blocks.{PlainBlock, instrs_at}
use Rattle.po_model.specs.Pairs.{PlainPair, WellFormedPair}
use Rattle.po_model.specs.Combined.{Kept, Gone, AsOne, combination, Answer}
use Rattle.po_model.specs.Scanned.{Ahead, Stand, BlockAhead, InBlock, Scan, Within, Finished, ScanStep, Tried, Ended}
use Rattle.po_model.specs.Scanned.{is_dead, onward, pair_with, ready, settled, instrs_ahead, blocks_ahead, enter}
use Rattle.po_model.specs.Scanned.{Tells, IsPassStart, passed_with, AfterPass, AfterBlock, after_try, Answers, Goes}
use Rattle.po_model.specs.Scanned.{IsScanned, AreSafe}
use Rattle.po_term.specs.Moves.{PlainInstr}

-- the answers of slow combination are safe
pub slow_safe : (m : Machine) → AreSafe m (combination m)
slow_safe m p h = inr refl

abbrev pub Told : Type 0
Told = ℕ → ℕ → Var → Bool

module _ (m : Machine) (Before : List PlainBlock → Type 0) (Becomes : List PlainBlock → List PlainBlock → Type 0)
    (Holds : List PlainBlock → Told → ℕ → List PlainInstr → List Ahead → Type 0) where
  -- Before holds of each code that a pass starts with; Becomes relates it to what passes make of it. Within a pass
  -- over the code, Holds code live b done rest holds wherever the scan of the block b stands; where a pair is ready
  -- there, the pair is well formed.
  pub record Laws : Type 0 where
    pub joins : (a b c : List PlainBlock) → Becomes a b → Becomes b c → Becomes a c
    pub start : (code : List PlainBlock) (live : Told) → Before code → Tells code live → (b : ℕ) → b < length code
        → Holds code live b [] (instrs_ahead (live b) 0 (instrs_at code b))
    pub dropped : (code : List PlainBlock) (live : Told) → Before code → Tells code live
        → (b : ℕ) (done : List PlainInstr) (x : Ahead) (xs : List Ahead) → Holds code live b done (x ∷ xs)
        → is_dead x.live x.instr ≡ true → Holds code live b done xs
    pub taken : (code : List PlainBlock) (live : Told) → Before code → Tells code live
        → (b : ℕ) (done : List PlainInstr) (x : Ahead) (xs : List Ahead) → Holds code live b done (x ∷ xs)
        → Holds code live b (x.instr ∷ done) xs
    pub formed : (code : List PlainBlock) (live : Told) → Before code → Tells code live
        → (b : ℕ) (d : PlainInstr) (done : List PlainInstr) (x : Ahead) (xs : List Ahead)
        → Holds code live b (d ∷ done) (x ∷ xs) → WellFormedPair (pair_with d x)
    pub gone : (code : List PlainBlock) (live : Told) → Before code → Tells code live
        → (b : ℕ) (d : PlainInstr) (done : List PlainInstr) (x : Ahead) (xs : List Ahead)
        → Holds code live b (d ∷ done) (x ∷ xs) → combination m (pair_with d x) ≡ Gone → Holds code live b done xs
    pub one : (code : List PlainBlock) (live : Told) → Before code → Tells code live
        → (b : ℕ) (d : PlainInstr) (done : List PlainInstr) (x : Ahead) (xs : List Ahead) (y : PlainInstr)
        → Holds code live b (d ∷ done) (x ∷ xs) → combination m (pair_with d x) ≡ AsOne y
        → Holds code live b done (record { instr = y; live = x.live } ∷ xs)
    -- a pass is over: each block has what was done of it
    pub over : (code : List PlainBlock) (live : Told) → Before code → Tells code live → (next : List PlainBlock)
        → map (λ b. b.label) next ≡ map (λ b. b.label) code
        → ((b : ℕ) → b < length code → Holds code live b (reverse (instrs_at next b)) [])
        → Becomes code next × Before next

instrs_behind : (xs : List PlainBlock) (y : PlainBlock) (ys : List PlainBlock)
    → instrs_at (xs ++ y ∷ ys) (length xs) ≡ y.instrs
instrs_behind [] y ys = refl
instrs_behind (x ∷ xs) y ys = instrs_behind xs y ys

instrs_before : (xs ys : List PlainBlock) (b : ℕ) → b < length xs → instrs_at (xs ++ ys) b ≡ instrs_at xs b
instrs_before [] ys b h = absurd (omega arith)
instrs_before (x ∷ xs) ys zero h = refl
instrs_before (x ∷ xs) ys (suc b) h = instrs_before xs ys b (omega arith)

there : (xs : List PlainBlock) (y : PlainBlock) (ys : List PlainBlock) → length xs < length (xs ++ y ∷ ys)
there [] y ys = omega arith
there (x ∷ xs) y ys = let h = there xs y ys in omega arith

below : (b n : ℕ) → b < suc n → (b ≡ n → ⊥) → b < n
below zero zero h k = absurd (k refl)
below zero (suc n) h k = omega arith
below (suc b) zero h k = absurd (omega arith)
below (suc b) (suc n) h k = let i = below b n (omega arith) (λ e. k (ap suc e)) in omega arith

reverse-cons : (p : PlainBlock) (ps : List PlainBlock) → reverse (p ∷ ps) ≡ reverse ps ++ p ∷ []
reverse-cons p ps = reverse-append (p ∷ []) ps

one_more : (xs : List PlainBlock) (y : PlainBlock) → length (xs ++ y ∷ []) ≡ suc (length xs)
one_more [] y = refl
one_more (x ∷ xs) y = let h = one_more xs y in omega arith

-- the block behind one that was passed
next_front : (xs : List PlainBlock) (y z : PlainBlock) (ys : List PlainBlock)
    → xs ++ y ∷ z ∷ ys ≡ (xs ++ y ∷ []) ++ z ∷ ys
next_front [] y z ys = refl
next_front (x ∷ xs) y z ys = ap (λ zs. x ∷ zs) (next_front xs y z ys)

abbrev pub label_of : PlainBlock → Option Label
label_of b = b.label

labels_append : (xs ys : List PlainBlock) → map label_of (xs ++ ys) ≡ map label_of xs ++ map label_of ys
labels_append [] ys = refl
labels_append (x ∷ xs) ys = ap (λ ls. x.label ∷ ls) (labels_append xs ys)

module _ {m : Machine} {Before : List PlainBlock → Type 0} {Becomes : List PlainBlock → List PlainBlock → Type 0}
    {Holds : List PlainBlock → Told → ℕ → List PlainInstr → List Ahead → Type 0} (laws : Laws m Before Becomes Holds)
    (answer : Answers) (safe : AreSafe m answer) where
  module _ (code : List PlainBlock) (live : Told) (before : Before code) (tells : Tells code live) where
    abbrev HoldsAt : ℕ → Stand → Type 0
    HoldsAt b s = Holds code live b s.done s.rest

    onward_holds : (b : ℕ) (done : List PlainInstr) (rest : List Ahead) (changed : Bool) → Holds code live b done rest
        → HoldsAt b (onward done rest changed)
    onward_holds b done [] changed h = h
    onward_holds b [] (x ∷ xs) changed h =
        go (is_dead x.live x.instr) refl
        (λ i. onward_holds b [] xs true (laws.dropped code live before tells b [] x xs h i))
        (onward_holds b (x.instr ∷ []) xs changed (laws.taken code live before tells b [] x xs h))
      where
        go : (d : Bool) → is_dead x.live x.instr ≡ d → (is_dead x.live x.instr ≡ true → HoldsAt b (onward [] xs true))
            → HoldsAt b (onward (x.instr ∷ []) xs changed)
            → HoldsAt b (if d then onward [] xs true else onward (x.instr ∷ []) xs changed)
        go true e f g = f e
        go false e f g = g
    onward_holds b (d ∷ ds) (x ∷ xs) changed h =
        go (is_dead x.live x.instr) refl
        (λ i. onward_holds b (d ∷ ds) xs true (laws.dropped code live before tells b (d ∷ ds) x xs h i))
      where
        go : (c : Bool) → is_dead x.live x.instr ≡ c
            → (is_dead x.live x.instr ≡ true → HoldsAt b (onward (d ∷ ds) xs true))
            → HoldsAt b
            (if c then onward (d ∷ ds) xs true else record { done = d ∷ ds; rest = x ∷ xs; changed = changed })
        go true e f = f e
        go false e f = h

    settled_holds : (b : ℕ) (done : List PlainInstr) (rest : List Ahead) (changed : Bool) (p : PlainPair)
        → ready done rest ≡ Some p → Holds code live b done rest → HoldsAt b (settled (answer p) done rest changed)
    settled_holds b [] rest changed p e h = absurd (cc)
    settled_holds b (d ∷ ds) [] changed p e h = absurd (cc)
    settled_holds b (d ∷ ds) (x ∷ xs) changed p e h =
        let q : pair_with d x ≡ p = (cc) in
        subst (λ (p : PlainPair). HoldsAt b (settled (answer p) (d ∷ ds) (x ∷ xs) changed)) q
        (go (answer (pair_with d x)) refl)
      where
        -- an answer that doesn't keep the pair is that of slow combination
        slow : (o : Answer) → answer (pair_with d x) ≡ o → (o ≡ Kept → ⊥) → combination m (pair_with d x) ≡ o
        slow o i n = either (safe (pair_with d x) (laws.formed code live before tells b d ds x xs h))
          where
            either : (answer (pair_with d x) ≡ Kept) ⊎ (answer (pair_with d x) ≡ combination m (pair_with d x))
                → combination m (pair_with d x) ≡ o
            either (inl k) = absurd (n (sym i ∙ k))
            either (inr k) = sym k ∙ i

        go : (o : Answer) → answer (pair_with d x) ≡ o → HoldsAt b (settled o (d ∷ ds) (x ∷ xs) changed)
        go Kept i = onward_holds b (x.instr ∷ d ∷ ds) xs changed (laws.taken code live before tells b (d ∷ ds) x xs h)
        go Gone i =
            onward_holds b ds xs true (laws.gone code live before tells b d ds x xs h (slow Gone i (λ k. absurd (cc))))
        go (AsOne y) i =
            onward_holds b ds (record { instr = y; live = x.live } ∷ xs) true
            (laws.one code live before tells b d ds x xs y h (slow (AsOne y) i (λ k. absurd (cc))))

    -- each block that was passed has what was done of it
    abbrev AllDone : List PlainBlock → Type 0
    AllDone [] = ⊤
    AllDone (p ∷ ps) = Holds code live (length ps) (reverse p.instrs) [] × AllDone ps

    done_at : (ps : List PlainBlock) → AllDone ps → (b : ℕ) → b < length ps
        → Holds code live b (reverse (instrs_at (reverse ps) b)) []
    done_at [] h b l = absurd (omega arith)
    done_at (p ∷ ps) h b l = rw (reverse-cons p ps) (go (b == length ps) refl (λ k. done_at ps h.1 b k))
      where
        go : (c : Bool) → (b == length ps) ≡ c
            → (b < length ps → Holds code live b (reverse (instrs_at (reverse ps) b)) [])
            → Holds code live b (reverse (instrs_at (reverse ps ++ p ∷ []) b)) []
        go true e ih =
            let n : length (reverse ps) ≡ b = length-reverse ps ∙ sym (eqb-true b (length ps) e) in
            subst (λ b. Holds code live b (reverse (instrs_at (reverse ps ++ p ∷ []) b)) []) n
            (rw (instrs_behind (reverse ps) p [], length-reverse ps) h.0)
        go false e ih =
            let n = eqb-false b (length ps) e in
            let k : b < length ps = below b (length ps) l n in
            let j : b < length (reverse ps) = rw (length-reverse ps) k in
            rw (instrs_before (reverse ps) (p ∷ []) b j) (ih k)

    -- where a pass over the code stands in a block
    record InPass (s : InBlock) : Type 0 where
      front : List PlainBlock
      here : PlainBlock
      more : List PlainBlock
      whole : code ≡ front ++ here ∷ more
      as_many : length front ≡ length s.passed
      labels : map label_of (reverse s.passed) ≡ map label_of front
      label : s.label ≡ here.label
      coming : s.coming ≡ blocks_ahead live (suc (length s.passed)) more
      passed : AllDone s.passed
      holds : HoldsAt (length s.passed) s.stand

    -- into the first block, and into the next one
    entered : (front : List PlainBlock) (b : PlainBlock) (more : List PlainBlock) (passed : List PlainBlock)
        (changed : Bool)
        → code ≡ front ++ b ∷ more → length front ≡ length passed → map label_of (reverse passed) ≡ map label_of front
        → AllDone passed
        → InPass (record {
          label = b.label;
          stand = onward [] (instrs_ahead (live (length passed)) 0 b.instrs) changed;
          passed = passed;
          coming = blocks_ahead live (suc (length passed)) more;
        })
    entered front b more passed changed whole as_many labels done =
        let k : length passed < length code = rw (whole, ← as_many) (there front b more) in
        let i : instrs_at code (length passed) ≡ b.instrs = rw (whole, ← as_many) (instrs_behind front b more) in
        record {
          front = front;
          here = b;
          more = more;
          whole = whole;
          as_many = as_many;
          labels = labels;
          label = refl;
          coming = refl;
          passed = done;
          holds = onward_holds (length passed) [] (instrs_ahead (live (length passed)) 0 b.instrs) changed
              (subst (λ (is : List PlainInstr).
              Holds code live (length passed) [] (instrs_ahead (live (length passed)) 0 is)) i
              (laws.start code live before tells (length passed) k));
        }

    tried_on : (s : InBlock) (p : PlainPair) → ready s.stand.done s.stand.rest ≡ Some p → InPass s
        → InPass (record {
          label = s.label;
          stand = settled (answer p) s.stand.done s.stand.rest s.stand.changed;
          passed = s.passed;
          coming = s.coming;
        })
    tried_on s p e h = record {
      front = h.front;
      here = h.here;
      more = h.more;
      whole = h.whole;
      as_many = h.as_many;
      labels = h.labels;
      label = h.label;
      coming = h.coming;
      passed = h.passed;
      holds = settled_holds (length s.passed) s.stand.done s.stand.rest s.stand.changed p e h.holds;
    }

    -- the block is done
    done_here : (s : InBlock) → InPass s → s.stand.rest ≡ [] → AllDone (passed_with s)
    done_here s h e = (
      rw (reverse-reverse s.stand.done)
          (subst (λ (rest : List Ahead). Holds code live (length s.passed) s.stand.done rest) e h.holds),
      h.passed,
    )

    labels_with : (s : InBlock) (h : InPass s)
        → map label_of (reverse (passed_with s)) ≡ map label_of (h.front ++ h.here ∷ [])
    labels_with s h =
        rw (
          reverse-cons (record { label = s.label; instrs = reverse s.stand.done }) s.passed,
          labels_append (reverse s.passed) (record { label = s.label; instrs = reverse s.stand.done } ∷ []),
          labels_append h.front (h.here ∷ []),
          h.labels,
          h.label,
        ) refl

    -- the next block, where one comes
    passed_on : (s : InBlock) (h : InPass s) → s.stand.rest ≡ [] → (c : PlainBlock) (more : List PlainBlock)
        → h.more ≡ c ∷ more
        → InPass (record {
          label = c.label;
          stand = onward [] (instrs_ahead (live (suc (length s.passed))) 0 c.instrs) s.stand.changed;
          passed = passed_with s;
          coming = blocks_ahead live (suc (suc (length s.passed))) more;
        })
    passed_on s h e c more i =
        entered (h.front ++ h.here ∷ []) c more (passed_with s) s.stand.changed
        (h.whole ∙ ap (λ z. h.front ++ h.here ∷ z) i ∙ next_front h.front h.here c more)
        (one_more h.front h.here ∙ ap suc h.as_many)
        (labels_with s h) (done_here s h e)

    -- the pass is over, where none comes
    passed_over : (s : InBlock) (h : InPass s) → s.stand.rest ≡ [] → h.more ≡ []
        → Becomes code (reverse (passed_with s)) × Before (reverse (passed_with s))
    passed_over s h e i =
        let whole : h.front ++ h.here ∷ [] ≡ code = sym (h.whole ∙ ap (λ z. h.front ++ h.here ∷ z) i) in
        let n : length (passed_with s) ≡ length code =
        sym (ap length (sym whole) ∙ one_more h.front h.here ∙ ap suc h.as_many) in
        laws.over code live before tells (reverse (passed_with s)) (labels_with s h ∙ ap (λ z. map label_of z) whole)
        (λ b k. done_at (passed_with s) (done_here s h e) b (rw n k))

  -- All passes, from the code `first` on

  -- what the passes that are over made of it
  abbrev Reached : List PlainBlock → List PlainBlock → Type 0
  Reached first code = (first ≡ code) ⊎ Becomes first code

  record Under (first : List PlainBlock) (s : InBlock) : Type 0 where
    code : List PlainBlock
    live : Told
    tells : Tells code live
    before : Before code
    reached : Reached first code
    pass : InPass code live before tells s

  abbrev Stood : List PlainBlock → Scan → Type 0
  Stood first (Within s) = Under first s
  Stood first (Finished code) = Becomes first code × Before code

  reached_on : (first code next : List PlainBlock) → Reached first code → Becomes code next → Becomes first next
  reached_on first code next (inl e) h = subst (λ (c : List PlainBlock). Becomes c next) (sym e) h
  reached_on first code next (inr g) h = laws.joins first code next g h

  started : (first code : List PlainBlock) (s : Scan) → Reached first code → Before code → IsPassStart code s
      → Stood first s
  started first code s r before (live, tells, e) = subst (λ (s : Scan). Stood first s) (sym e) (go code refl)
    where
      go : (c : List PlainBlock) → code ≡ c → Stood first (enter [] (blocks_ahead live 0 c) false)
      go [] i =
          let none : map label_of [] ≡ map label_of code = ap (λ z. map label_of z) (sym i) in
          let o = laws.over code live before tells [] none (λ b k. absurd (empty code i b k)) in
          (reached_on first code [] r o.0, o.1)
        where
          empty : (code : List PlainBlock) → code ≡ [] → (b : ℕ) → b < length code → ⊥
          empty [] e b k = omega arith
          empty (x ∷ xs) e b k = (cc)
      go (b ∷ more) i = record {
        code = code;
        live = live;
        tells = tells;
        before = before;
        reached = r;
        pass = entered code live before tells [] b more [] false i refl refl tt;
      }

  ended : (first : List PlainBlock) (s : InBlock) (t : Scan) → Under first s → s.stand.rest ≡ []
      → AfterBlock s.coming s t → Stood first t
  ended first s t h e after = go h.pass.more refl
    where
      over : (changed : Bool) (next : List PlainBlock) → Becomes h.code next → Before next → AfterPass changed next t
          → Stood first t
      over true next b p a = started first next t (inr (reached_on first h.code next h.reached b)) p a
      over false next b p a = subst (λ (s : Scan). Stood first s) (sym a) (reached_on first h.code next h.reached b, p)

      go : (more : List PlainBlock) → h.pass.more ≡ more → Stood first t
      go [] i =
          let c : s.coming ≡ [] = h.pass.coming ∙ ap (λ z. blocks_ahead h.live (suc (length s.passed)) z) i in
          let o = passed_over h.code h.live h.before h.tells s h.pass e i in
          over s.stand.changed (reverse (passed_with s)) o.0 o.1
          (subst (λ (z : List BlockAhead). AfterBlock z s t) c after)
      go (b ∷ more) i =
          let c : s.coming ≡ blocks_ahead h.live (suc (length s.passed)) (b ∷ more) =
          h.pass.coming ∙ ap (λ z. blocks_ahead h.live (suc (length s.passed)) z) i in
          let a = subst (λ (z : List BlockAhead). AfterBlock z s t) c after in
          subst (λ (s : Scan). Stood first s) (sym a) (record {
            code = h.code;
            live = h.live;
            tells = h.tells;
            before = h.before;
            reached = h.reached;
            pass = passed_on h.code h.live h.before h.tells s h.pass e b more i;
          })

  stepped : (first : List PlainBlock) (s : Scan) (steps : List ScanStep) (t : Scan) → Stood first s
      → Goes answer s steps t → Stood first t
  stepped first s [] t h g = subst (λ (s : Scan). Stood first s) (sym g) h
  stepped first (Within s) (Tried p ∷ steps) t h g =
      stepped first (after_try (answer p) (Within s)) steps t
      (record {
        code = h.code;
        live = h.live;
        tells = h.tells;
        before = h.before;
        reached = h.reached;
        pass = tried_on h.code h.live h.before h.tells s p g.0 h.pass;
      })
      g.1
  stepped first (Finished code) (Tried p ∷ steps) t h g = absurd (cc)
  stepped first (Within s) (Ended ∷ steps) t h (u, a, g) = stepped first u steps t (ended first s u h a.0 a.1) g
  stepped first (Finished code) (Ended ∷ steps) t h (u, a, g) = absurd a

  pub by_passes : (code scanned : List PlainBlock) (pairs : List PlainPair) → Before code
      → IsScanned answer code pairs scanned
      → Becomes code scanned × Before scanned
  by_passes code scanned pairs before (steps, (start, first, goes), e) =
      stepped code start steps (Finished scanned) (started code code start (inl refl) before first) goes
