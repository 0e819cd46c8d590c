-- Instructions are counted, block by block and unit by unit.
use Rattle.std.proofs.Common.{◌≡◌, ℕ, suc, ◌+◌, ◌*◌, ◌<◌, ◌≤◌, List, [], ◌∷◌, ◌++◌, length, get_or, drop, map}
use Rattle.std.proofs.Common.{refl, ap, sym, ◌∙◌, subst, arith, inr, length-append}
use Rattle.std.proofs.lemmas.List.{length-map, drop_more, drop_all}
use Rattle.std.proofs.lemmas.List.Elements.{All-nil}
use Rattle.po_ir.specs.declared.unit.Unit.{Unit}
use Rattle.po_sample.specs.Sample.{sample}
use Rattle.po_term.specs.Moves.{instr_of}
use Rattle.po_model.specs.declared.code.Block.{Block}
use Rattle.po_model.specs.declared.machine.Machine.{Machine}
use Rattle.po_model.specs.Blocks.{PlainBlock, block_of}
use Rattle.po_model.specs.Combined.{combination}
use Rattle.po_model.specs.Holed.{PlainRule}
use Rattle.po_model.specs.Lookups.{AreDistinct}
use Rattle.po_model.specs.Machines.{IsMachine}
use Rattle.po_model.specs.Naive.{naive}
use Rattle.po_model.specs.UnitCodes.{IsFormedCode, IsPlaceable, flat}
use Rattle.po_slow.proofs.KeptForm.{form_kept}
use Rattle.po_gen.specs.declared.tally.Tally.{Tally}
use Rattle.po_gen.specs.Learnt.{HasRules}
use Rattle.po_gen.specs.Passed.{IsPassed, IsCounted}
use Rattle.po_gen.specs.Summary.{Count, GoesOn, IsCount, IsCounts}

-- A code

-- the instructions of these blocks
abbrev pub size : List Block → ℕ
size bs = length (flat (map block_of bs))

-- those of a block and of the blocks behind it
size_cons : (b : Block) (bs : List Block) → size (b ∷ bs) ≡ length b.instrs.items + size bs
size_cons b bs = length-append (map instr_of b.instrs.items) (flat (map block_of bs))
    ∙ ap (λ (n : ℕ). n + size bs) (length-map b.instrs.items instr_of)

pub size_next : (bs : List Block) (i n total : ℕ) (b : Block) → i < length bs → b ≡ get_or bs i b
    → n + size (drop i bs) ≡ total → n + length b.instrs.items + size (drop (i + 1) bs) ≡ total
size_next bs i n total b small is e =
    let here : drop i bs ≡ b ∷ drop (i + 1) bs =
    drop_more bs i b small ∙ ap (λ (c : Block). c ∷ drop (i + 1) bs) (sym is) in
    let sizes : size (drop i bs) ≡ length b.instrs.items + size (drop (i + 1) bs) =
    ap size here ∙ size_cons b (drop (i + 1) bs) in
    omega arith

pub size_end : (bs : List Block) (i n total : ℕ) → i ≡ length bs → n + size (drop i bs) ≡ total → n ≡ total
size_end bs i n total e h =
    let none : size (drop i bs) ≡ 0 = ap size (ap (λ (i : ℕ). drop i bs) e ∙ drop_all (length bs) bs (omega arith)) in
    omega arith

-- all passes leave no more instructions
pub no_more : (m : Machine) (code slowed : List PlainBlock) (old new : List PlainRule) → IsMachine m
    → IsFormedCode code → IsPassed m code slowed old new → length (flat slowed) ≤ length (flat code)
no_more m code slowed old new is formed p =
    (form_kept m (combination m) code slowed p.pairs is (λ q well. inr refl) formed p.makes).fewer

-- a unit is counted
pub counted_by : (m : Machine) (told code slowed : List PlainBlock) (s t : Tally) (old new : List PlainRule)
    → IsMachine m → IsPlaceable code → code ≡ told → IsPassed m code slowed old new
    → t.before ≡ s.before + length (flat code) → t.after ≡ s.after + length (flat slowed)
    → IsCounted m told s t old new
counted_by m told code slowed s t old new is p e passed before after =
    let fewer : length (flat slowed) ≤ length (flat code) = no_more m code slowed old new is p.form passed in
    let here : IsCounted m code s t old new = record {
      slowed = slowed;
      passed = passed;
      before = before;
      after = after;
      few = omega (arith, p.few_instrs);
      few_slowed = omega (arith, p.few_instrs, fewer);
    } in
    subst (λ (c : List PlainBlock). IsCounted m c s t old new) e here

-- Units

-- the units before the k-th are counted
pub record IsCounting (m : Machine) (seed k : ℕ) (t : Tally) (rs : List PlainRule) : Type 0 where
  pub count : Count
  pub counted : IsCount m seed k count
  pub before : t.before ≡ count.before
  pub after : t.after ≡ count.after
  pub rules : HasRules m count.pairs rs
  pub few : t.before ≤ k * 536870912
  pub few_after : t.after ≤ k * 536870912

pub counting_begin : (m : Machine) (seed : ℕ) (rs : List PlainRule) → rs ≡ []
    → IsCounting m seed 0 (record { before = 0; after = 0 }) rs
counting_begin m seed rs e = rw e (record {
  count = record { before = 0; after = 0; pairs = [] };
  counted = refl;
  before = refl;
  after = refl;
  rules = record { each = All-nil _; only = All-nil _ };
  few = omega arith;
  few_after = omega arith;
})

pub counting_next : (m : Machine) (seed k : ℕ) (s t : Tally) (old new : List PlainRule) → IsCounting m seed k s old
    → IsCounted m (naive (sample seed k)).code s t old new → IsCounting m seed (k + 1) t new
counting_next m seed k s t old new h c =
    let count : Count = record { before = t.before; after = t.after; pairs = h.count.pairs ++ c.passed.pairs } in
    let on : GoesOn m (naive (sample seed k)) h.count count = record {
      pairs = c.passed.pairs;
      slowed = c.slowed;
      makes = c.passed.makes;
      before = c.before ∙ ap (λ (n : ℕ). n + length (flat (naive (sample seed k)).code)) h.before;
      after = c.after ∙ ap (λ (n : ℕ). n + length (flat c.slowed)) h.after;
      tried = refl;
    } in
    let same : suc k ≡ k + 1 = omega arith in
    record {
      count = count;
      counted = subst (λ (n : ℕ). IsCount m seed n count) same (h.count, h.counted, on);
      before = refl;
      after = refl;
      rules = c.passed.learns h.count.pairs h.rules;
      few = omega (arith, c.before, c.few, h.few);
      few_after = omega (arith, c.after, c.few_slowed, h.few_after);
    }

-- one more unit is counted, on the machine as it is seen
pub counting_next_by : (m n : Machine) (seed k : ℕ) (u : Unit) (s t : Tally) (old new : List PlainRule) → n ≡ m
    → u ≡ sample seed k → IsCounting m seed k s old → IsCounted n (naive u).code s t old new
    → IsCounting m seed (k + 1) t new
counting_next_by m n seed k u s t old new e f h c =
    let sampled : IsCounted n (naive (sample seed k)).code s t old new =
    subst (λ (u : Unit). IsCounted n (naive u).code s t old new) f c in
    counting_next m seed k s t old new h
    (subst (λ (n : Machine). IsCounted n (naive (sample seed k)).code s t old new) e sampled)

pub counting_end : (m : Machine) (seed k units number : ℕ) (t : Tally) (rs : List PlainRule) → IsCounting m seed k t rs
    → k ≡ units → AreDistinct rs → number ≡ length rs → IsCounts m seed units t.before t.after number
counting_end m seed k units number t rs h e distinct f = record {
  count = h.count;
  counted = subst (λ (n : ℕ). IsCount m seed n h.count) e h.counted;
  is_before = h.before;
  is_after = h.after;
  rules = rs;
  are_rules = h.rules;
  distinct = distinct;
  is_number = f;
}
