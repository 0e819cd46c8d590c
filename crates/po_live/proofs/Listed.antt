-- Parts of one list of registers: what a part says stays as more are put behind it, and a list of all blocks says what
-- is live.
use Rattle.std.proofs.Common.{◌≡◌, ℕ, zero, suc, ◌+◌, ◌-◌, ◌<◌, ◌≤◌, Bool, true, false, List, [], ◌∷◌, ◌++◌, length}
use Rattle.std.proofs.Common.{drop, take, map, All, refl, sym, ◌∙◌, ap, subst, arith, slice_index_or, length-append}
use Rattle.std.proofs.Common.{add-one}
use Rattle.std.specs.Prelude.{◌||◌, ◌↔◌, IsTrue, slice_range}
use mathlib.Core.Logic.{◌⊎◌, inl, inr}
use Rattle.std.proofs.lemmas.Bool.{true≢false, false≢true, or_cases}
use Rattle.std.proofs.lemmas.List.{length-map, length-drop, take-append-le, drop-append-le, take_all, drop_all}
use Rattle.std.proofs.lemmas.List.Elements.{All-nil, All-head, All-tail, All-get_or, All-push, All-weaker, All-same}
use Rattle.po_term.specs.declared.term.Reg.{Reg as Register}
use Rattle.po_term.specs.declared.term.Reg.TheVariants.{Fp}
use Rattle.po_term.specs.Moves.{PlainInstr}
use Rattle.po_model.specs.declared.var.Var.{Var}
use Rattle.po_model.specs.declared.var.Var.TheVariants.{Reg}
use Rattle.po_model.specs.declared.code.Block.{Block}
use Rattle.po_model.specs.Blocks.{PlainBlock, block_of, instrs_at, leads}
use Rattle.po_model.specs.LiveAfter.{IsRead, IsLive, LiveAfter}
use Rattle.po_live.specs.declared.parts.Part.{Part}
use Rattle.po_live.specs.declared.parts.LiveList.{LiveList}
use Rattle.po_live.specs.declared.sets.LiveVars.{LiveVars}
use Rattle.po_live.specs.Sets.{among, holds, holds_at, is_fp, back, nothing}
use Rattle.po_live.specs.Parts.{part_tells, tells_at, end_at, start_at, blocks_in, parts_in, tells, IsPart, IsLiveList}
use Rattle.po_live.specs.Parts.{IsGrown, IsListTo, NoneCross}
use Rattle.po_live.proofs.Fuel.{var_eq_true}
use Rattle.po_live.proofs.Solved.{or_left, or_right, instrs_beyond}
use Rattle.po_live.proofs.Paths.{back_same, covers, reached}
use Rattle.po_live.proofs.Instrs.{there_below}

-- One part

pub tells_there : (rs : List Register) (ps : List Part) (k : ℕ) (p : Part) → k < length ps → p ≡ slice_index_or ps k p
    → part_tells rs p ≡ tells_at rs ps k
tells_there rs [] k p h e = absurd (omega arith)
tells_there rs (q ∷ ps) zero p h e = ap (part_tells rs) e
tells_there rs (q ∷ ps) (suc k) p h e = tells_there rs ps k p (omega arith) e

-- where the parts of a block end
pub end_there : (ns : List ℕ) (b e : ℕ) → b < length ns → e ≡ slice_index_or ns b e → e ≡ end_at ns b
end_there [] b e h p = absurd (omega arith)
end_there (n ∷ ns) zero e h p = p
end_there (n ∷ ns) (suc b) e h p = end_there ns b e (omega arith) p

end_within : (n : ℕ) (ns : List ℕ) (b : ℕ) → All (λ e. e ≤ n) ns → end_at ns b ≤ n
end_within n [] b a = omega arith
end_within n (x ∷ xs) zero a = All-head (λ e. e ≤ n) x xs a
end_within n (x ∷ xs) (suc b) a = end_within n xs b (All-tail (λ e. e ≤ n) x xs a)

range_kept : (rs qs : List Register) (i j : ℕ) → i ≤ j → j ≤ length rs
    → slice_range (rs ++ qs) i j ≡ slice_range rs i j
range_kept rs qs i j o h =
    ap (take (j - i)) (drop-append-le i rs qs (omega arith))
    ∙ take-append-le (j - i) (drop i rs) qs (omega (arith, length-drop i rs))

range_last : (rs qs : List Register) → slice_range (rs ++ qs) (length rs) (length (rs ++ qs)) ≡ qs
range_last rs qs =
    ap (take (length (rs ++ qs) - length rs))
    (drop-append-le (length rs) rs qs (omega arith)
    ∙ ap (λ (l : List Register). l ++ qs) (drop_all (length rs) rs (omega arith)))
    ∙ take_all (length (rs ++ qs) - length rs) qs (omega (arith, length-append rs qs))

parts_kept : (rs qs : List Register) (ps more : List Part) → All (IsPart (length rs)) ps → (k : ℕ) (v : Var)
    → k < length ps → tells_at (rs ++ qs) (ps ++ more) k v ≡ tells_at rs ps k v
parts_kept rs qs [] more a k v h = absurd (omega arith)
parts_kept rs qs (p ∷ ps) more a zero v h =
    let i = All-head (IsPart (length rs)) p ps a in
    ap (λ l. among l p.has_cc v) (range_kept rs qs p.from p.to i.order i.inside)
parts_kept rs qs (p ∷ ps) more a (suc k) v h =
    parts_kept rs qs ps more (All-tail (IsPart (length rs)) p ps a) k v (omega arith)

part_last : (rs : List Register) (ps : List Part) (p : Part) (v : Var)
    → tells_at rs (ps ++ p ∷ []) (length ps) v ≡ part_tells rs p v
part_last rs [] p v = refl
part_last rs (q ∷ ps) p v = part_last rs ps p v

-- the part of an instruction of a list
pub part_there : (l : LiveList) (b i e : ℕ) (lent : List Part) (p : Part) → IsLiveList l → b < blocks_in l
    → i < parts_in l b → e ≡ slice_index_or l.ends.items b e → lent ≡ l.parts.items
    → p ≡ slice_index_or lent (e - suc i) p
    → IsPart (length l.regs.items) p × (part_tells l.regs.items p ≡ tells l b i)
part_there l b i e lent p a h j g n q =
    let end : e ≡ end_at l.ends.items b = end_there l.ends.items b e h g in
    let k : e - suc i < length l.parts.items =
    omega (arith, end, j, end_within (length l.parts.items) l.ends.items b a.ends) in
    let is : p ≡ slice_index_or l.parts.items (e - suc i) p =
    q ∙ ap (λ (ps : List Part). slice_index_or ps (e - suc i) p) n in (
      subst (IsPart (length l.regs.items)) (sym is)
          (All-get_or (IsPart (length l.regs.items)) l.parts.items (e - suc i) p k a.parts),
      tells_there l.regs.items l.parts.items (e - suc i) p k is
          ∙ ap (λ m. tells_at l.regs.items l.parts.items (m - suc i)) end,
    )

-- The parts of a block

pub grown_none : (rs : List Register) (ps : List Part) (out : Var → Bool) (xs : List PlainInstr) → xs ≡ []
    → All (IsPart (length rs)) ps → IsGrown rs ps rs ps xs out
grown_none rs ps out xs e a = record {
  count = omega (arith, ap length e);
  parts = a;
  kept = λ k v h. refl;
  after = λ i v h. absurd (omega (arith, h, ap length e));
}

-- one more instruction before the others
grown_put : (rs : List Register) (ps : List Part) (rs1 : List Register) (ps1 : List Part) (x : PlainInstr)
    (xs : List PlainInstr) (out : Var → Bool) (l : LiveVars)
    → IsGrown rs ps rs1 ps1 xs out → ((q : Var) → holds l q ≡ (is_fp q || back xs out q))
    → IsGrown rs ps (rs1 ++ l.regs.items)
    (ps1 ++ (record { from = length rs1; to = length (rs1 ++ l.regs.items); has_cc = l.cc }) ∷ []) (x ∷ xs) out
grown_put rs ps rs1 ps1 x xs out l g e = record {
  count = omega (arith, n, g.count);
  parts =
      All-push (IsPart (length rs2)) ps1 p
      (All-weaker (IsPart (length rs1)) (IsPart (length rs2))
      (λ p i. record { order = i.order; inside = omega (arith, i.inside, length-append rs1 l.regs.items) }) ps1
      g.parts) (record { order = omega (arith, length-append rs1 l.regs.items); inside = omega arith });
  kept = λ k v h. parts_kept rs1 l.regs.items ps1 (p ∷ []) g.parts k v (omega (arith, h, g.count)) ∙ g.kept k v h;
  after = after;
}
  where
    rs2 : List Register
    rs2 = rs1 ++ l.regs.items

    p : Part
    p = record { from = length rs1; to = length (rs1 ++ l.regs.items); has_cc = l.cc }

    n : length (ps1 ++ p ∷ []) ≡ suc (length ps1)
    n = length-append ps1 (p ∷ []) ∙ add-one (length ps1)

    after : (i : ℕ) (v : Var) → i < suc (length xs)
        → tells_at rs2 (ps1 ++ p ∷ []) (length (ps1 ++ p ∷ []) - suc i) v
        ≡ (is_fp v || back (drop (suc i) (x ∷ xs)) out v)
    after zero v h =
        let k : length (ps1 ++ p ∷ []) - 1 ≡ length ps1 = omega (arith, n) in
        ap (λ j. tells_at rs2 (ps1 ++ p ∷ []) j v) k ∙ part_last rs2 ps1 p v
        ∙ ap (λ qs. among qs l.cc v) (range_last rs1 l.regs.items) ∙ e v
    after (suc i) v h =
        let k : length (ps1 ++ p ∷ []) - suc (suc i) ≡ length ps1 - suc i = omega (arith, n) in
        let there : length ps1 - suc i < length ps1 = omega (arith, h, g.count) in
        ap (λ j. tells_at rs2 (ps1 ++ p ∷ []) j v) k
        ∙ parts_kept rs1 l.regs.items ps1 (p ∷ []) g.parts (length ps1 - suc i) v there ∙ g.after i v (omega arith)

pub grown_more : (rs : List Register) (ps : List Part) (rs1 : List Register) (ps1 : List Part) (rs2 : List Register)
    (ps2 : List Part) (x : PlainInstr) (xs ys : List PlainInstr) (out : Var → Bool) (l : LiveVars)
    → IsGrown rs ps rs1 ps1 xs out → ((q : Var) → holds l q ≡ (is_fp q || back xs out q)) → ys ≡ x ∷ xs
    → rs2 ≡ rs1 ++ l.regs.items → ps2 ≡ ps1 ++ (record { from = length rs1; to = length rs2; has_cc = l.cc }) ∷ []
    → IsGrown rs ps rs2 ps2 ys out
grown_more rs ps rs1 ps1 rs2 ps2 x xs ys out l g e y r p =
    let p2 : ps2 ≡ ps1 ++ (record { from = length rs1; to = length (rs1 ++ l.regs.items); has_cc = l.cc }) ∷ [] =
    p ∙ ap (λ (qs : List Register). ps1 ++ (record { from = length rs1; to = length qs; has_cc = l.cc }) ∷ []) r in
    subst (λ zs. IsGrown rs ps rs2 ps2 zs out) (sym y)
    (subst (λ qs. IsGrown rs ps qs ps2 (x ∷ xs) out) (sym r)
    (subst (λ qs. IsGrown rs ps (rs1 ++ l.regs.items) qs (x ∷ xs) out) (sym p2)
    (grown_put rs ps rs1 ps1 x xs out l g e)))

-- the same, from what is live behind the instructions alike
pub grown_same : {rs rs2 : List Register} {ps ps2 : List Part} (xs ys : List PlainInstr) (out out2 : Var → Bool)
    → ys ≡ xs → ((v : Var) → out v ≡ out2 v) → IsGrown rs ps rs2 ps2 ys out → IsGrown rs ps rs2 ps2 xs out2
grown_same {rs} {rs2} {ps} {ps2} xs ys out out2 y e h =
    let g : IsGrown rs ps rs2 ps2 xs out = subst (λ zs. IsGrown rs ps rs2 ps2 zs out) y h in
    record {
      count = g.count;
      parts = g.parts;
      kept = g.kept;
      after = λ i v h. g.after i v h ∙ ap (λ b. is_fp v || b) (back_same (drop (suc i) xs) out out2 v (e v));
    }

-- Block after block

end_below : (ns : List ℕ) (n b : ℕ) → b < length ns → end_at (ns ++ n ∷ []) b ≡ end_at ns b
end_below [] n b h = absurd (omega arith)
end_below (x ∷ xs) n zero h = refl
end_below (x ∷ xs) n (suc b) h = end_below xs n b (omega arith)

end_last : (ns : List ℕ) (n : ℕ) → end_at (ns ++ n ∷ []) (length ns) ≡ n
end_last [] n = refl
end_last (x ∷ xs) n = end_last xs n

start_below : (ns : List ℕ) (n b : ℕ) → b ≤ length ns → start_at (ns ++ n ∷ []) b ≡ start_at ns b
start_below ns n zero h = refl
start_below ns n (suc b) h = end_below ns n b (omega arith)

cases : (b n : ℕ) → b < n + 1 → (b ≡ n) ⊎ (b < n)
cases b n h = grind arith

pub no_blocks : (code : List PlainBlock) (out : ℕ → Var → Bool) (l : LiveList) → l.regs.items ≡ [] → l.parts.items ≡ []
    → l.ends.items ≡ [] → IsListTo code out l 0
no_blocks code out l r p e = record {
  list =
      record {
        parts = All-same (IsPart (length l.regs.items)) l.parts.items [] p (All-nil (IsPart (length l.regs.items)));
        ends = All-same (λ n. n ≤ length l.parts.items) l.ends.items [] e (All-nil (λ n. n ≤ length l.parts.items));
      };
  blocks = ap length e;
  whole = sym (ap length p);
  lengths = λ b h. absurd (omega arith);
  after = λ b i v h k. absurd (omega arith);
}

-- one more block
module _ (code : List PlainBlock) (out : ℕ → Var → Bool) (l m : LiveList) (n : ℕ) (t : IsListTo code out l n)
    (g : IsGrown l.regs.items l.parts.items m.regs.items m.parts.items (instrs_at code n) (out n))
    (e : m.ends.items ≡ l.ends.items ++ (length m.parts.items) ∷ []) where
  end_now : (b : ℕ) → b < n → end_at m.ends.items b ≡ end_at l.ends.items b
  end_now b h = ap (λ ns. end_at ns b) e ∙ end_below l.ends.items (length m.parts.items) b (omega (arith, h, t.blocks))

  start_now : (b : ℕ) → b ≤ n → start_at m.ends.items b ≡ start_at l.ends.items b
  start_now b h =
      ap (λ ns. start_at ns b) e ∙ start_below l.ends.items (length m.parts.items) b (omega (arith, h, t.blocks))

  end_here : end_at m.ends.items n ≡ length m.parts.items
  end_here =
      ap (λ b. end_at m.ends.items b) (sym t.blocks) ∙ ap (λ ns. end_at ns (length l.ends.items)) e
      ∙ end_last l.ends.items (length m.parts.items)

  more_lengths : (b : ℕ) → b < n + 1 → parts_in m b ≡ length (instrs_at code b)
  more_lengths b h = go (cases b n h)
    where
      here : parts_in m n ≡ length (instrs_at code n)
      here = omega (arith, end_here, start_now n (omega arith), t.whole, g.count)

      go : (b ≡ n) ⊎ (b < n) → parts_in m b ≡ length (instrs_at code b)
      go (inl p) = subst (λ c. parts_in m c ≡ length (instrs_at code c)) (sym p) here
      go (inr k) = omega (arith, end_now b k, start_now b (omega arith), t.lengths b k)

  more_after : (b i : ℕ) (v : Var) → b < n + 1 → i < length (instrs_at code b)
      → tells m b i v ≡ (is_fp v || back (drop (suc i) (instrs_at code b)) (out b) v)
  more_after b i v h j = go (cases b n h)
    where
      here : (i : ℕ) → i < length (instrs_at code n)
          → tells m n i v ≡ (is_fp v || back (drop (suc i) (instrs_at code n)) (out n) v)
      here i j = ap (λ k. tells_at m.regs.items m.parts.items (k - suc i) v) end_here ∙ g.after i v j

      go : (b ≡ n) ⊎ (b < n) → tells m b i v ≡ (is_fp v || back (drop (suc i) (instrs_at code b)) (out b) v)
      go (inl p) =
          subst (λ c. i < length (instrs_at code c)
          → tells m c i v ≡ (is_fp v || back (drop (suc i) (instrs_at code c)) (out c) v)) (sym p) (here i) j
      go (inr k) =
          let there : end_at l.ends.items b - suc i < length l.parts.items =
          omega (arith, t.lengths b k, j, end_within (length l.parts.items) l.ends.items b t.list.ends) in
          ap (λ k. tells_at m.regs.items m.parts.items (k - suc i) v) (end_now b k)
          ∙ g.kept (end_at l.ends.items b - suc i) v there ∙ t.after b i v k j

  pub list_more : IsListTo code out m (n + 1)
  list_more =
      let P : ℕ → Type 0 = λ k. k ≤ length m.parts.items in
      let ends : All P (l.ends.items ++ (length m.parts.items) ∷ []) = All-push P l.ends.items (length m.parts.items)
      (All-weaker (λ k. k ≤ length l.parts.items) P (λ k h. omega (arith, h, g.count)) l.ends.items
      t.list.ends) (omega arith) in
      record {
        list =
            record {
              parts = g.parts;
              ends = All-same P m.ends.items (l.ends.items ++ (length m.parts.items) ∷ []) e ends;
            };
        blocks = ap length e ∙ length-append l.ends.items ((length m.parts.items) ∷ []) ∙ ap (λ k. k + 1) t.blocks;
        whole = ap (λ k. start_at m.ends.items k) (add-one n) ∙ end_here;
        lengths = more_lengths;
        after = more_after;
      }

-- A list of all blocks says what is live

fp_or_read_else : (code : List PlainBlock) (b : ℕ) (v : Var) (xs : List PlainInstr) (live : Var → Bool) (held : Bool)
    → held ≡ (is_fp v || back xs live v)
    → (is_fp v ≡ false → (back xs live v ≡ true) ↔ IsRead code v (record { block = b; rest = xs }))
    → IsTrue held ↔ IsLive code v (record { block = b; rest = xs })
fp_or_read_else code b v xs live held e r = go (is_fp v) refl
  where
    go : (f : Bool) → is_fp v ≡ f → IsTrue held ↔ IsLive code v (record { block = b; rest = xs })
    go true f = (λ h. inl (sym (var_eq_true (Reg Fp) v f)), λ l. e ∙ or_left (is_fp v) (back xs live v) f)
    go false f = (there, back_there)
      where
        there : IsTrue held → IsLive code v (record { block = b; rest = xs })
        there h = pick (or_cases (is_fp v) (back xs live v) (sym e ∙ h))
          where
            pick : (is_fp v ≡ true) ⊎ (back xs live v ≡ true) → IsLive code v (record { block = b; rest = xs })
            pick (inl g) = absurd (true≢false (sym g ∙ f))
            pick (inr g) = inr ((r f).0 g)

        back_there : IsLive code v (record { block = b; rest = xs }) → IsTrue held
        back_there (inl g) = e ∙ or_left (is_fp v) (back xs live v) (ap is_fp g)
        back_there (inr g) = e ∙ or_right (is_fp v) (back xs live v) ((r f).1 g)

end_beyond : (ns : List ℕ) (b : ℕ) → length ns ≤ b → end_at ns b ≡ 0
end_beyond [] b h = refl
end_beyond (x ∷ xs) zero h = absurd (omega arith)
end_beyond (x ∷ xs) (suc b) h = end_beyond xs b (omega arith)

less_or_not : (q n : ℕ) → (q < n) ⊎ (n ≤ q)
less_or_not q n = grind arith

module _ (code : List PlainBlock) (out : ℕ → Var → Bool) (l : LiveList) (t : IsListTo code out l (length code)) where
  pub list_lengths : (b : ℕ) → parts_in l b ≡ length (instrs_at code b)
  list_lengths b = go (less_or_not b (length code))
    where
      go : (b < length code) ⊎ (length code ≤ b) → parts_in l b ≡ length (instrs_at code b)
      go (inl h) = t.lengths b h
      go (inr h) =
          omega (
            arith,
            end_beyond l.ends.items b (omega (arith, h, t.blocks)),
            ap (λ (is : List PlainInstr). length is) (instrs_beyond code b h),
          )

  pub list_lives : ((b : ℕ) (xs : List PlainInstr) (v : Var) → is_fp v ≡ false
      → (back xs (out b) v ≡ true) ↔ IsRead code v (record { block = b; rest = xs }))
      → (b i : ℕ) (v : Var) → i < length (instrs_at code b) → IsTrue (tells l b i v) ↔ LiveAfter code b i v
  list_lives r b i v h =
      let xs = drop (suc i) (instrs_at code b) in
      fp_or_read_else code b v xs (out b) (tells l b i v) (t.after b i v (there_below code b i h) h) (r b xs v)

-- where nothing is live at the start of a block, nothing is live at an end
pub none_at_ends : (code : List PlainBlock) → NoneCross code (length code) → (b : ℕ) (xs : List PlainInstr) (v : Var)
    → is_fp v ≡ false → (back xs nothing v ≡ true) ↔ IsRead code v (record { block = b; rest = xs })
none_at_ends code none b xs v f = (
  λ h. reached code (λ c. nothing) (λ c v f. absurd (false≢true f)) v b xs h,
  λ l. covers code (λ c. nothing) v closed l.0 b xs l.1,
)
  where
    at_start : (q : ℕ) → back (instrs_at code q) nothing v ≡ false
    at_start q = go (less_or_not q (length code))
      where
        go : (q < length code) ⊎ (length code ≤ q) → back (instrs_at code q) nothing v ≡ false
        go (inl h) = none q v h f
        go (inr h) = ap (λ is. back is nothing v) (instrs_beyond code q h)

    closed : (c q : ℕ) → leads code c q ≡ true → back (instrs_at code q) nothing v ≡ true → nothing v ≡ true
    closed c q l h = absurd (true≢false (sym h ∙ at_start q))

-- one more block at whose start nothing is live
pub none_more : (code : List PlainBlock) (n : ℕ) (live out : Var → Bool) (xs : List PlainInstr) → xs ≡ instrs_at code n
    → NoneCross code n → ((q : Var) → out q ≡ false) → ((q : Var) → live q ≡ (is_fp q || back xs out q))
    → ((q : Var) → is_fp q ≡ false → live q ≡ false) → NoneCross code (n + 1)
none_more code n live out xs x t o e a b v h f = go (cases b n h)
  where
    or_second : (r s : Bool) → (r || s) ≡ false → s ≡ false
    or_second true s e = absurd (true≢false e)
    or_second false s e = e

    here : back (instrs_at code n) nothing v ≡ false
    here =
        ap (λ is. back is nothing v) (sym x) ∙ back_same xs nothing out v (sym (o v))
        ∙ or_second (is_fp v) (back xs out v) (sym (e v) ∙ a v f)

    go : (b ≡ n) ⊎ (b < n) → back (instrs_at code b) nothing v ≡ false
    go (inl p) = ap (λ c. back (instrs_at code c) nothing v) p ∙ here
    go (inr k) = t b v k f

-- The same of the blocks that a code lends

pub lent_list : (blocks lent : List Block) (out : ℕ → Var → Bool) (l : LiveList) → lent ≡ blocks
    → IsListTo (map block_of lent) out l (length lent)
    → IsListTo (map block_of blocks) out l (length (map block_of blocks))
lent_list blocks lent out l p t =
    subst (λ n. IsListTo (map block_of blocks) out l n) (sym (length-map blocks block_of))
    (subst (λ (bs : List Block). IsListTo (map block_of bs) out l (length bs)) p t)

pub lent_none : (blocks lent : List Block) → lent ≡ blocks → NoneCross (map block_of lent) (length lent)
    → NoneCross (map block_of blocks) (length (map block_of blocks))
lent_none blocks lent p t =
    subst (λ n. NoneCross (map block_of blocks) n) (sym (length-map blocks block_of))
    (subst (λ (bs : List Block). NoneCross (map block_of bs) (length bs)) p t)

pub solved_lives : (blocks lent lent2 : List Block) (out out2 : List LiveVars) (l : LiveList) → lent ≡ blocks
    → lent2 ≡ blocks → out2 ≡ out
    → ((b : ℕ) (xs : List PlainInstr) (q : Var)
    → (back xs (holds_at out b) q ≡ true) ↔ IsRead (map block_of lent) q (record { block = b; rest = xs }))
    → IsListTo (map block_of lent2) (holds_at out2) l (length lent2) → (b i : ℕ) (v : Var)
    → i < length (instrs_at (map block_of blocks) b) → IsTrue (tells l b i v) ↔ LiveAfter (map block_of blocks) b i v
solved_lives blocks lent lent2 out out2 l p q o r t =
    let t2 : IsListTo (map block_of lent2) (holds_at out) l (length lent2) =
    subst (λ (ls : List LiveVars). IsListTo (map block_of lent2) (holds_at ls) l (length lent2)) o t in
    let r2 : (b : ℕ) (xs : List PlainInstr) (q : Var)
    → (back xs (holds_at out b) q ≡ true) ↔ IsRead (map block_of blocks) q (record { block = b; rest = xs })
    = subst
    (λ (bs : List Block). (b : ℕ) (xs : List PlainInstr) (q : Var)
    → (back xs (holds_at out b) q ≡ true) ↔ IsRead (map block_of bs) q (record { block = b; rest = xs })) p r in
    list_lives (map block_of blocks) (holds_at out) l (lent_list blocks lent2 (holds_at out) l q t2)
    (λ b xs v f. r2 b xs v)
