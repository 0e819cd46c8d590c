-- A term of no depth, and one step of reading.
use Rattle.std.proofs.Common.{◌≡◌, ℕ, ◌-◌, ◌<◌, List, None, refl, suc, zero, arith}
use Rattle.po_termtext.specs.Reading.{term_by, term_in}

pub term_in_none : (depth : ℕ) (s : List ℕ) → depth ≡ 0 → term_in depth s ≡ None
unfolding term_in
term_in_none zero s e = refl
term_in_none (suc depth) s e = absurd (omega (arith, e))

pub term_in_more : (depth : ℕ) (s : List ℕ) → 0 < depth → term_in depth s ≡ term_by (term_in (depth - 1)) s
unfolding term_in
term_in_more zero s h = absurd (omega arith)
term_in_more (suc depth) s h = let e : suc depth - 1 ≡ depth = omega arith in rw e refl
