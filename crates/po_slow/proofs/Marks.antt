-- A mark says true as long as its pair is what it was.
use Rattle.std.proofs.Common.{◌≡◌, ◌≢◌, ℕ, zero, suc, ◌+◌, ◌-◌, ◌<◌, ◌≤◌, ◌&&◌, Bool, true, false, not, if◌then◌else◌}
use Rattle.std.proofs.Common.{List, [], ◌∷◌, length, take, set, get_or, Option, Some, None, refl, sym, ◌∙◌, ap, subst}
use Rattle.std.proofs.Common.{arith, inl, inr, get_or-set_same, get_or-set_other}
use Rattle.std.specs.Prelude.{IfSome}
use Rattle.std.specs.BTreeSet.{insert_key}
use Rattle.std.proofs.lemmas.List.{length-set, length-take, get_or-take}
use Rattle.std.proofs.lemmas.Bool.{false≢true, cases_eq}
use Rattle.po_term.specs.declared.term.Reg.{Reg as Register}
use Rattle.po_term.specs.contracts.term.RegOrd.TheImpl.{cmp-value}
use Rattle.po_term.specs.Moves.{SetTo, CcTo, StoreTo, Ends, PlainInstr}
use Rattle.po_model.specs.declared.machine.Machine.{Machine}
use Rattle.po_model.specs.declared.var.Var.{Var}
use Rattle.po_model.specs.declared.var.Var.TheVariants.{Reg, Cc}
use Rattle.po_model.specs.Combined.{Kept, combination}
use Rattle.po_model.specs.Scanned.{put_live, pair_with}
use Rattle.po_slow.specs.declared.mark.Mark.{Mark}
use Rattle.po_slow.specs.Marks.{are_targets, Fits, Says, AreTrue}

-- Where a mark fits, the pair is the same

and_first : (a b : Bool) → (a && b) ≡ true → a ≡ true
and_first true b h = refl
and_first false b h = absurd (false≢true h)

and_rest : (a b : Bool) → (a && b) ≡ true → b ≡ true
and_rest true b h = h
and_rest false b h = absurd (false≢true h)

is_said : (b live : Bool) → (if b then live else not live) ≡ true → live ≡ b
is_said true live h = h
is_said false true h = absurd (false≢true h)
is_said false false h = refl

same_put : (live other : Var → Bool) (b : Bool) (x : PlainInstr) (rs : List Register) → are_targets live b x ≡ true
    → are_targets other b x ≡ true → put_live live x rs ≡ put_live other x rs
same_put live other b [] rs g h = refl
same_put live other b (SetTo r t ∷ ms) rs g h =
    let this : live (Reg r) ≡ b = is_said b (live (Reg r)) (and_first _ (are_targets live b ms) g) in
    let that : other (Reg r) ≡ b = is_said b (other (Reg r)) (and_first _ (are_targets other b ms) h) in
    let more : Bool → List Register = λ c. if c then insert_key cmp-value.it rs r else rs in
    ap (λ c. put_live live ms (more c)) this
    ∙ (same_put live other b ms (more b) (and_rest _ (are_targets live b ms) g)
    (and_rest _ (are_targets other b ms) h)
    ∙ sym (ap (λ c. put_live other ms (more c)) that))
same_put live other b (CcTo t u ∷ ms) rs g h = same_put live other b ms rs g h
same_put live other b (StoreTo t u ∷ ms) rs g h = same_put live other b ms rs g h
same_put live other b (Ends e ∷ ms) rs g h = same_put live other b ms rs g h

same_pair : (k : Mark) (live other : Var → Bool) (d x : PlainInstr) → Fits k live d x → Fits k other d x
    → pair_with d (record { instr = x; live = live }) ≡ pair_with d (record { instr = x; live = other })
same_pair k live other d x f g =
    let regs : put_live live x (put_live live d []) ≡ put_live other x (put_live other d []) =
    ap (put_live live x) (same_put live other k.first d [] f.first g.first)
    ∙ same_put live other k.second x (put_live other d []) f.second g.second in
    let cc : live Cc ≡ other Cc = f.cc ∙ sym g.cc in
    (λ i. record { a = d; b = x; regs = regs i; cc = cc i })

-- the mark of a pair that stays
pub kept_says : (m : Machine) (d x : PlainInstr) (live : Var → Bool) (mark : Option Mark)
    → IfSome mark (λ k. Fits k live d x)
    → combination m (pair_with d (record { instr = x; live = live })) ≡ Kept → Says m d x mark
kept_says m d x live None f e = tt
kept_says m d x live (Some k) f e = λ other g. ap (combination m) (same_pair k other live d x g f) ∙ e

-- the pair that has its mark stays
pub marked_kept : (m : Machine) (d x : PlainInstr) (live : Var → Bool) (stands mark : Option Mark) (k : Mark)
    → IfSome mark (λ k. Fits k live d x) → mark ≡ Some k → stands ≡ Some k → Says m d x stands
    → combination m (pair_with d (record { instr = x; live = live })) ≡ Kept
marked_kept m d x live stands mark k f e g h =
    let fits : Fits k live d x = subst (λ o. IfSome o (λ k. Fits k live d x)) e f in
    let says : Says m d x (Some k) = subst (Says m d x) g h in
    says live fits

-- Marks that are put

says_put : (m : Machine) (d x : PlainInstr) (mark : Option Mark) (ks : List (Option Mark)) (i : ℕ) → Says m d x mark
    → Says m d x (get_or (set ks i mark) i None)
says_put m d x mark [] i h = tt
says_put m d x mark (k ∷ ks) zero h = h
says_put m d x mark (k ∷ ks) (suc i) h = says_put m d x mark ks i h

says_same : (m : Machine) (d x d' x' : PlainInstr) (k k' : Option Mark) → d' ≡ d → x' ≡ x → k' ≡ k → Says m d x k
    → Says m d' x' k'
says_same m d x d' x' k k' e f g h =
    subst (λ y. Says m y x' k') (sym e) (subst (λ y. Says m d y k') (sym f) (subst (λ y. Says m d x y) (sym g) h))

-- an element that isn't written
other : {A : Type 0} (l : List A) (i j : ℕ) (a d : A) → j ≢ i → get_or (set l i a) j d ≡ get_or l j d
other l i j a d n = get_or-set_other l i j a d n

other_two : {A : Type 0} (l : List A) (i j k : ℕ) (a b d : A) → k ≢ i → k ≢ j
    → get_or (set (set l i a) j b) k d ≡ get_or l k d
other_two l i j k a b d n o = get_or-set_other (set l i a) j k b d o ∙ get_or-set_other l i k a d n

-- Each step keeps the marks true

module _ (m : Machine) (xs : List PlainInstr) (ks : List (Option Mark)) (done next : ℕ) (o : done ≤ next)
    (t : AreTrue m xs ks done next) where
  -- the next instruction is dropped, and some of those that are done aren't any more
  dropped_true : (n : ℕ) → n ≤ done → AreTrue m xs (set ks (next + 1) None) n (next + 1)
  dropped_true n le = record {
    behind = λ i h. says_same m _ _ _ _ _ _ refl refl
        (other ks (next + 1) (i + 1) None None (λ e. absurd (omega (arith, e)))) (t.behind i (omega arith));
    here = λ s h. says_put m _ _ None ks (next + 1) tt;
    ahead = λ i le h. says_same m _ _ _ _ _ _ refl refl
        (other ks (next + 1) (i + 1) None None (λ e. absurd (omega (arith, e)))) (t.ahead i (omega arith) h);
  }

  pub skip_true : AreTrue m xs (set ks (next + 1) None) done (next + 1)
  skip_true = dropped_true done (omega arith)

  -- the pair goes
  pub gone_true : AreTrue m xs (set ks (next + 1) None) (done - 1) (next + 1)
  gone_true = dropped_true (done - 1) (omega arith)

  -- one instruction stands in the pair's place
  pub one_true : (y : PlainInstr) → 0 < done
      → AreTrue m (set xs next y) (set (set ks next None) (next + 1) None) (done - 1) next
  one_true y some = record {
    behind = λ i h. says_same m _ _ _ _ _ _
        (other xs next i y [] (λ e. absurd (omega (arith, e))))
        (other xs next (i + 1) y [] (λ e. absurd (omega (arith, e))))
        (other_two ks next (next + 1) (i + 1) None None None (λ e. absurd (omega (arith, e)))
        (λ e. absurd (omega (arith, e))))
        (t.behind i (omega arith));
    here = λ s h. says_same m _ _ _ _ _ _ refl refl
        (other (set ks next None) (next + 1) next None None (λ e. absurd (omega (arith, e))))
        (says_put m _ _ None ks next tt);
    ahead = ahead;
  }
    where
      ys : List PlainInstr
      ys = set xs next y

      ls : List (Option Mark)
      ls = set (set ks next None) (next + 1) None

      ahead : (i : ℕ) → next ≤ i → i + 1 < length ys
          → Says m (get_or ys i []) (get_or ys (i + 1) []) (get_or ls (i + 1) None)
      ahead i le h =
          elim (cases_eq next i) [
            | inl e ↦
                subst (λ j. Says m (get_or ys j []) (get_or ys (j + 1) []) (get_or ls (j + 1) None)) e
                (says_put m _ _ None (set ks next None) (next + 1) tt)
            | inr n ↦
                says_same m _ _ _ _ _ _
                (other xs next i y [] (λ e. n (sym e)))
                (other xs next (i + 1) y [] (λ e. absurd (omega (arith, e, le))))
                (other_two ks next (next + 1) (i + 1) None None None (λ e. absurd (omega (arith, e, le)))
                (λ e. n (omega (arith, e))))
                (t.ahead i le (omega (arith, h, length-set xs next y)))
          ]

  -- the next instruction is done
  pub take_true : (left : PlainInstr) (mark : Option Mark) → next < length xs
      → (0 < done → Says m (get_or xs (done - 1) []) (get_or xs next []) mark)
      → AreTrue m (set (set xs next left) done (get_or xs next [])) (set ks done mark) (done + 1) (next + 1)
  take_true left mark h says = record {
    behind = behind;
    here = λ s g. says_same m _ _ _ _ _ _
        (ap (λ n. get_or ys n []) (omega arith) ∙ here_is)
        (other_two xs next done (next + 1) left x [] (λ e. absurd (omega (arith, e)))
        (λ e. absurd (omega (arith, e, o))))
        (other ks done (next + 1) mark None (λ e. absurd (omega (arith, e, o))))
        (t.ahead next (omega arith) (omega (arith, g, len)));
    ahead = λ i le g. says_same m _ _ _ _ _ _
        (other_two xs next done i left x [] (λ e. absurd (omega (arith, e, le)))
        (λ e. absurd (omega (arith, e, le, o))))
        (other_two xs next done (i + 1) left x [] (λ e. absurd (omega (arith, e, le)))
        (λ e. absurd (omega (arith, e, le, o))))
        (other ks done (i + 1) mark None (λ e. absurd (omega (arith, e, le, o))))
        (t.ahead i (omega (arith, le)) (omega (arith, g, len)));
  }
    where
      x : PlainInstr
      x = get_or xs next []

      ys : List PlainInstr
      ys = set (set xs next left) done x

      ls : List (Option Mark)
      ls = set ks done mark

      len : length ys ≡ length xs
      len = length-set (set xs next left) done x ∙ length-set xs next left

      here_is : get_or ys done [] ≡ x
      here_is = get_or-set_same (set xs next left) done x [] (omega (arith, length-set xs next left, o, h))

      behind : (i : ℕ) → i + 1 < done + 1 → Says m (get_or ys i []) (get_or ys (i + 1) []) (get_or ls (i + 1) None)
      behind i g =
          let before : get_or ys i [] ≡ get_or xs i [] =
          other_two xs next done i left x [] (λ e. absurd (omega (arith, e, g, o))) (λ e. absurd (omega (arith, e, g)))
          in
          elim (cases_eq (i + 1) done) [
            | inl e ↦
                says_same m (get_or xs (done - 1) []) x _ _ (get_or (set ks done mark) done None) _
                (before ∙ ap (λ n. get_or xs n []) (omega (arith, e)))
                (ap (λ n. get_or ys n []) e ∙ here_is)
                (ap (λ n. get_or ls n None) e)
                (says_put m (get_or xs (done - 1) []) x mark ks done (says (omega (arith, e))))
            | inr n ↦
                says_same m _ _ _ _ _ _ before
                (other_two xs next done (i + 1) left x [] (λ e. absurd (omega (arith, e, g, o, n))) n)
                (other ks done (i + 1) mark None n)
                (t.behind i (omega (arith, g, n)))
          ]

  -- the block is cut to what is done
  pub cut_true : AreTrue m (take done xs) ks done done
  cut_true = record {
    behind = λ i h. says_same m _ _ _ _ _ _
        (get_or-take done xs i [] (omega (arith, h)))
        (get_or-take done xs (i + 1) [] h)
        refl (t.behind i h);
    here = λ s h. absurd (omega (arith, h, length-take done xs));
    ahead = λ i le h. absurd (omega (arith, le, h, length-take done xs));
  }

  -- a block that is cut is whole again
  pub whole_true : next ≡ done → done ≡ length xs → AreTrue m xs ks 0 0
  whole_true n e = record {
    behind = λ i h. absurd (omega (arith, h));
    here = λ s h. absurd (omega (arith, s));
    ahead = λ i le h. t.behind i (omega (arith, h, e));
  }

-- marks that aren't there are true
pub none_true : (m : Machine) (xs : List PlainInstr) (ks : List (Option Mark)) (done next : ℕ)
    → ((i : ℕ) → get_or ks i None ≡ None) → AreTrue m xs ks done next
none_true m xs ks done next e = record {
  behind = λ i h. subst (Says m _ _) (sym (e (i + 1))) tt;
  here = λ s h. subst (Says m _ _) (sym (e next)) tt;
  ahead = λ i le h. subst (Says m _ _) (sym (e (i + 1))) tt;
}
