-- The sets that are computed backwards are those by paths.
use Rattle.std.proofs.Common.{◌≡◌, ℕ, Bool, true, false, List, [], ◌∷◌, refl, ap}
use Rattle.std.specs.Prelude.{not, ◌||◌, ◌&&◌, ◌↔◌}
use Rattle.std.proofs.lemmas.Bool.{false≢true, true≢false}
use Rattle.po_model.specs.declared.var.Var.{Var}
use Rattle.po_model.specs.Blocks.{PlainBlock, instrs_at, leads}
use Rattle.po_model.specs.LiveAfter.{reads, sets, Point, ReadOn, IsRead}
use Rattle.po_live.specs.Sets.{back, nothing, sets_any}
use Rattle.po_term.specs.Moves.{PlainInstr}

or_true : (r w b : Bool) → w ≡ false → b ≡ true → (r || (not w && b)) ≡ true
or_true true w b e f = refl
or_true false w b e f = rw (e, f)

split_one : (r w g s o : Bool) → (r || (not w && (g || (not s && o)))) ≡ ((r || (not w && g)) || (not (w || s) && o))
split_one true w g s o = refl
split_one false true g s o = refl
split_one false false g s o = refl

-- a block as a whole: what it reads first, and what it doesn't set
pub back_split : (xs : List PlainInstr) (live : Var → Bool) (v : Var)
    → back xs live v ≡ (back xs nothing v || (not (sets_any xs v) && live v))
back_split [] live v = refl
back_split (x ∷ xs) live v =
    rw (back_split xs live v) (split_one (reads x v) (sets x v) (back xs nothing v) (sets_any xs v) (live v))

pub back_same : (xs : List PlainInstr) (l m : Var → Bool) (v : Var) → l v ≡ m v → back xs l v ≡ back xs m v
back_same [] l m v e = e
back_same (x ∷ xs) l m v e = ap (λ b. reads x v || (not (sets x v) && b)) (back_same xs l m v e)

module _ (code : List PlainBlock) where
  -- nothing is to be added of v
  abbrev pub IsClosedFor : Var → (ℕ → Var → Bool) → Type 0
  IsClosedFor v out = (b q : ℕ) → leads code b q ≡ true → back (instrs_at code q) (out q) v ≡ true → out b v ≡ true

  -- nothing is to be added
  abbrev pub IsClosed : (ℕ → Var → Bool) → Type 0
  IsClosed out = (v : Var) → IsClosedFor v out

  -- nothing is too much
  abbrev pub IsJustified : (ℕ → Var → Bool) → Type 0
  IsJustified out = (b : ℕ) (v : Var) → out b v ≡ true → IsRead code v (record { block = b; rest = [] })

  module _ (out : ℕ → Var → Bool) where
    -- every path is covered
    pub covers : (v : Var) → IsClosedFor v out → (path : List Point) (b : ℕ) (xs : List PlainInstr)
        → ReadOn code v (record { block = b; rest = xs }) path → back xs (out b) v ≡ true
    covers v closed [] b [] h = absurd (false≢true h)
    covers v closed [] b (x ∷ xs) h = rw h
    covers v closed (q ∷ qs) b [] h =
        closed b q.block h.1.0 (let ih = covers v closed qs q.block q.rest h.2 in rw (h.1.1) at ih)
    covers v closed (q ∷ qs) b (x ∷ xs) h =
        let ih = covers v closed qs q.block q.rest h.2 in
        or_true (reads x v) (sets x v) (back xs (out b) v) h.0 (rw (h.1.1, h.1.0) at ih)

    -- each member has a path
    pub reached : IsJustified out → (v : Var) (b : ℕ) (xs : List PlainInstr) → back xs (out b) v ≡ true
        → IsRead code v (record { block = b; rest = xs })
    reached justified v b [] h = justified b v h
    reached justified v b (x ∷ xs) h = go (reads x v) refl (sets x v) refl (reached justified v b xs) h
      where
        go : (r : Bool) → reads x v ≡ r → (w : Bool) → sets x v ≡ w
            → (back xs (out b) v ≡ true → IsRead code v (record { block = b; rest = xs }))
            → (r || (not w && back xs (out b) v)) ≡ true → IsRead code v (record { block = b; rest = x ∷ xs })
        go true e w f ih h = ([], e)
        go false e true f ih h = absurd (false≢true h)
        go false e false f ih h = let l = ih h in (record { block = b; rest = xs } ∷ l.0, (f, (refl, refl), l.1))

    -- sets to which nothing is to be added, and in which nothing is too much, are what is read on some path
    pub is_read : IsClosed out → IsJustified out → (v : Var) (b : ℕ) (xs : List PlainInstr)
        → (back xs (out b) v ≡ true) ↔ IsRead code v (record { block = b; rest = xs })
    is_read closed justified v b xs = (reached justified v b xs, λ l. covers v (closed v) l.0 b xs l.1)

  -- from the end of a block to the start of the next
  pub from_end : (b q : ℕ) (v : Var) → leads code b q ≡ true
      → IsRead code v (record { block = q; rest = instrs_at code q }) → IsRead code v (record { block = b; rest = [] })
  from_end b q v l r = (record { block = q; rest = instrs_at code q } ∷ r.0, (refl, (l, refl), r.1))

  or_parts : (w s : Bool) → (w || s) ≡ false → (w ≡ false) × (s ≡ false)
  or_parts true s e = absurd (true≢false e)
  or_parts false s e = (refl, e)

  -- through instructions that don't set it
  pub through : (b : ℕ) (v : Var) (xs : List PlainInstr) → sets_any xs v ≡ false
      → IsRead code v (record { block = b; rest = [] }) → IsRead code v (record { block = b; rest = xs })
  through b v [] e r = r
  through b v (x ∷ xs) e r =
      let p = or_parts (sets x v) (sets_any xs v) e in
      let ih = through b v xs p.1 r in
      (record { block = b; rest = xs } ∷ ih.0, (p.0, (refl, refl), ih.1))
