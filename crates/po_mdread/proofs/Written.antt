-- Lines that are read as a machine describe it.
use Rattle.std.proofs.Common.{◌≡◌, ℕ, List, [], ◌∷◌, ◌++◌, false, Ok, refl, ap, sym, ◌∙◌, subst, map, codes}
use Rattle.std.proofs.Common.{append_assoc, inl, inr}
use Rattle.std.specs.Prelude.{⊤}
use Rattle.std.proofs.lemmas.Bool.{false≢true}
use Rattle.po_text.specs.declared.fault.Spot.{Spot}
use Rattle.po_lines.specs.Forms.{says_nothing}
use Rattle.po_lines.specs.Lines.{Numbered}
use Rattle.po_lines.specs.Reading.{read_each}
use Rattle.po_lines.specs.Words.{Placed, words_in}
use Rattle.po_lines.proofs.Results.{bind_ok, ok_is, not_ok}
use Rattle.po_lines.proofs.WordLaws.{bytes_of}
use Rattle.po_model.specs.declared.machine.Entry.{Entry}
use Rattle.po_model.specs.declared.machine.Machine.{Machine}
use Rattle.po_entry.proofs.Written.{entry_written}
use Rattle.po_mdread.specs.declared.sofar.Sofar.{Sofar}
use Rattle.po_mdread.specs.declared.sofar.Sofar.TheVariants.{ToMachine, ToFrame, ToResult, ToArgs, ToRegs, ToEntries}
use Rattle.po_mdread.specs.declared.sofar.Sofar.TheVariants.{Ended}
use Rattle.po_mdread.specs.Description.{said_lines, line_texts, BeginsWith, IsInsnLine, AreInsnLines, head_texts}
use Rattle.po_mdread.specs.Description.{BeginWith}
use Rattle.po_mdread.specs.Reading.{behind, with_entry, some_line, has_ended, step, finish, described}
use Rattle.po_mdread.proofs.Allowed.{none_fine, each_fine, machine_is}
use Rattle.po_mdread.proofs.Described.{AreShort, said_first, silent_first, no_entries, more_entries, with_entries}
use Rattle.po_mdread.proofs.Described.{description_again}
use Rattle.po_mdread.proofs.Ended.{rest_ended}
use Rattle.po_mdread.proofs.LinesFound.{head_of, machine_found, frame_found, result_found, args_found, regs_found}
use Rattle.po_mdread.proofs.LinesFound.{entry_found}
use Rattle.po_mdread.proofs.Spots.{first_read, none_read, more_read}
use Rattle.po_mdread.proofs.Steps.{IsShort, IsSilent, IsSaid, step_found}

-- the words of the head lines that are still to come
abbrev rest_texts : Sofar → Machine → List (List (List ℕ))
rest_texts ToMachine m = head_texts m
rest_texts (ToFrame n) m = (codes "frame" ∷ m.frame ∷ []) ∷ (codes "result" ∷ m.result ∷ []) ∷ (codes "args" ∷ m.args)
    ∷ (codes "regs" ∷ m.regs) ∷ []
rest_texts (ToResult n a) m = (codes "result" ∷ m.result ∷ []) ∷ (codes "args" ∷ m.args) ∷ (codes "regs" ∷ m.regs) ∷ []
rest_texts (ToArgs n a b) m = (codes "args" ∷ m.args) ∷ (codes "regs" ∷ m.regs) ∷ []
rest_texts (ToRegs n a b c) m = (codes "regs" ∷ m.regs) ∷ []
rest_texts (ToEntries k) m = []
rest_texts (Ended k at) m = []

-- the machine has what was read so far, and these are the entries still to come
abbrev Completes : Sofar → Machine → List Entry → Type 0
Completes ToMachine m es = m.entries ≡ es
Completes (ToFrame n) m es = (m.entries ≡ es) × (m.name ≡ n)
Completes (ToResult n a) m es = (m.entries ≡ es) × (m.name ≡ n) × (m.frame ≡ a)
Completes (ToArgs n a b) m es = (m.entries ≡ es) × (m.name ≡ n) × (m.frame ≡ a) × (m.result ≡ b)
Completes (ToRegs n a b c) m es = (m.entries ≡ es) × (m.name ≡ n) × (m.frame ≡ a) × (m.result ≡ b) × (m.args ≡ c)
Completes (ToEntries k) m es = m ≡ with_entries k es
Completes (Ended k at) m es = ⊤

record IsWritten (s : Sofar) (ls : List Numbered) (m : Machine) (end : Spot) : Type 0 where
  front : List Numbered
  last : Numbered
  back : List Numbered
  cut : ls ≡ front ++ last ∷ back
  short : AreShort (front ++ last ∷ [])
  heads : List Numbered
  insns : List Numbered
  entries : List Entry
  said : said_lines (front ++ last ∷ []) ≡ heads ++ (insns ++ last ∷ [])
  head_lines : map line_texts heads ≡ rest_texts s m
  completes : Completes s m entries
  insn_lines : AreInsnLines insns entries
  end_line : line_texts last ≡ codes "end" ∷ []
  place : end ≡ behind last

skipped : (s : Sofar) (l : Numbered) (ls : List Numbered) (m : Machine) (end : Spot) → IsSilent l
    → IsWritten s ls m end → IsWritten s (l ∷ ls) m end
skipped s l ls m end h w = record {
  front = l ∷ w.front;
  last = w.last;
  back = w.back;
  cut = ap (λ (xs : List Numbered). l ∷ xs) w.cut;
  short = (h.short, w.short);
  heads = w.heads;
  insns = w.insns;
  entries = w.entries;
  said = silent_first l (w.front ++ w.last ∷ []) h.silent ∙ w.said;
  head_lines = w.head_lines;
  completes = w.completes;
  insn_lines = w.insn_lines;
  end_line = w.end_line;
  place = w.place;
}

with_head : (s t : Sofar) (l : Numbered) (ls : List Numbered) (m : Machine) (end : Spot) → IsShort l
    → says_nothing (words_in l.bytes) ≡ false → (w : IsWritten t ls m end)
    → line_texts l ∷ rest_texts t m ≡ rest_texts s m → Completes s m w.entries → IsWritten s (l ∷ ls) m end
with_head s t l ls m end short speaks w texts completes = record {
  front = l ∷ w.front;
  last = w.last;
  back = w.back;
  cut = ap (λ (xs : List Numbered). l ∷ xs) w.cut;
  short = (short, w.short);
  heads = l ∷ w.heads;
  insns = w.insns;
  entries = w.entries;
  said = said_first l (w.front ++ w.last ∷ []) speaks ∙ ap (λ (xs : List Numbered). l ∷ xs) w.said;
  head_lines = ap (λ (xs : List (List (List ℕ))). line_texts l ∷ xs) w.head_lines ∙ texts;
  completes = completes;
  insn_lines = w.insn_lines;
  end_line = w.end_line;
  place = w.place;
}

none_of : (heads : List Numbered) → map line_texts heads ≡ [] → heads ≡ []
none_of [] e = refl
none_of (l ∷ ls) e = cc

with_insn : (k : Machine) (e : Entry) (l : Numbered) (ls : List Numbered) (m : Machine) (end : Spot) → IsShort l
    → says_nothing (words_in l.bytes) ≡ false → IsInsnLine l e
    → IsWritten (ToEntries (with_entry k e)) ls m end → IsWritten (ToEntries k) (l ∷ ls) m end
with_insn k e l ls m end short speaks is w =
    let none : w.heads ≡ [] = none_of w.heads w.head_lines in
    record {
      front = l ∷ w.front;
      last = w.last;
      back = w.back;
      cut = ap (λ (xs : List Numbered). l ∷ xs) w.cut;
      short = (short, w.short);
      heads = [];
      insns = l ∷ w.insns;
      entries = e ∷ w.entries;
      said = said_first l (w.front ++ w.last ∷ []) speaks ∙ ap (λ (xs : List Numbered). l ∷ xs)
          (w.said ∙ ap (λ (hs : List Numbered). hs ++ (w.insns ++ w.last ∷ [])) none);
      head_lines = refl;
      completes = w.completes ∙ more_entries k e w.entries;
      insn_lines = (is, w.insn_lines);
      end_line = w.end_line;
      place = w.place;
    }

ended_same : (m n : Machine) (at spot : Spot) → Ended m at ≡ Ended n spot → (m ≡ n) × (at ≡ spot)
ended_same m n at spot e = (cc, cc)

with_end : (k : Machine) (l : Numbered) (ls : List Numbered) (m : Machine) (end : Spot) → IsShort l
    → says_nothing (words_in l.bytes) ≡ false → line_texts l ≡ codes "end" ∷ []
    → read_each step (Ended k (behind l)) ls ≡ Ok (Ended m end) → IsWritten (ToEntries k) (l ∷ ls) m end
with_end k l ls m end short speaks texts read =
    let same = ended_same m k end (behind l) (ok_is (sym read ∙ rest_ended (Ended k (behind l)) ls refl)) in
    record {
      front = [];
      last = l;
      back = ls;
      cut = refl;
      short = (short, tt);
      heads = [];
      insns = [];
      entries = [];
      said = said_first l [] speaks;
      head_lines = refl;
      completes = same.0 ∙ sym (no_entries k);
      insn_lines = tt;
      end_line = texts;
      place = same.1;
    }

texts_are : (l : Numbered) (w : Placed) (ws : List Placed) (text : List ℕ) (names : List (List ℕ)) → words_in l.bytes
    ≡ w ∷ ws → w.bytes ≡ text → map bytes_of ws ≡ names → line_texts l ≡ text ∷ names
texts_are l w ws text names e f g = ap (map bytes_of) e ∙ ap (λ (t : List ℕ). t ∷ map bytes_of ws) f
    ∙ ap (λ (ns : List (List ℕ)). text ∷ ns) g

begins_with : (l : Numbered) (w : Placed) (ws : List Placed) → words_in l.bytes ≡ w ∷ ws → w.bytes ≡ codes "insn"
    → BeginsWith (codes "insn") (line_texts l)
begins_with l w ws e f = subst (λ (ts : List (List ℕ)). BeginsWith (codes "insn") ts) (sym (ap (map bytes_of) e)) f

said_written : (s t : Sofar) (l : Numbered) (ls : List Numbered) (m : Machine) (end : Spot) → has_ended s ≡ false
    → IsSaid s l t → read_each step t ls ≡ Ok (Ended m end)
    → (has_ended t ≡ false → IsWritten t ls m end) → IsWritten s (l ∷ ls) m end
unfolding some_line
said_written ToMachine t l ls m end going p read more =
    let f = machine_found p.first p.others _ t p.told in
    let w = subst (λ (r : Sofar). IsWritten r ls m end) f.2 (more (ap has_ended f.2)) in
    let texts = texts_are l p.first p.others (codes "machine") (f.0 ∷ []) p.words f.1.first f.1.read.words in
    with_head ToMachine (ToFrame f.0) l ls m end p.short (ap says_nothing p.words ∙ p.said) w
    (ap (λ (x : List (List ℕ)). x ∷ rest_texts (ToFrame f.0) m) (texts ∙ ap (λ (n : List ℕ). codes "machine" ∷ n ∷ [])
    (sym w.completes.1))) w.completes.0
said_written (ToFrame n) t l ls m end going p read more =
    let f = frame_found n p.first p.others _ t p.told in
    let w = subst (λ (r : Sofar). IsWritten r ls m end) f.2 (more (ap has_ended f.2)) in
    let texts = texts_are l p.first p.others (codes "frame") (f.0 ∷ []) p.words f.1.first f.1.read.words in
    with_head (ToFrame n) (ToResult n f.0) l ls m end p.short (ap says_nothing p.words ∙ p.said) w
    (ap (λ (x : List (List ℕ)). x ∷ rest_texts (ToResult n f.0) m)
    (texts ∙ ap (λ (x : List ℕ). codes "frame" ∷ x ∷ []) (sym w.completes.2))) (w.completes.0, w.completes.1)
said_written (ToResult n a) t l ls m end going p read more =
    let f = result_found n a p.first p.others _ t p.told in
    let w = subst (λ (r : Sofar). IsWritten r ls m end) f.3 (more (ap has_ended f.3)) in
    let texts = texts_are l p.first p.others (codes "result") (f.0 ∷ []) p.words f.1.first f.1.read.words in
    with_head (ToResult n a) (ToArgs n a f.0) l ls m end p.short (ap says_nothing p.words ∙ p.said) w
    (ap (λ (x : List (List ℕ)). x ∷ rest_texts (ToArgs n a f.0) m)
    (texts ∙ ap (λ (x : List ℕ). codes "result" ∷ x ∷ []) (sym w.completes.3)))
    (w.completes.0, w.completes.1, w.completes.2)
said_written (ToArgs n a b) t l ls m end going p read more =
    let f = args_found n a b p.first p.others _ t p.told in
    let w = subst (λ (r : Sofar). IsWritten r ls m end) f.4 (more (ap has_ended f.4)) in
    let texts = texts_are l p.first p.others (codes "args") f.0 p.words f.1.first f.1.read.words in
    with_head (ToArgs n a b) (ToRegs n a b f.0) l ls m end p.short (ap says_nothing p.words ∙ p.said) w
    (ap (λ (x : List (List ℕ)). x ∷ rest_texts (ToRegs n a b f.0) m)
    (texts ∙ ap (λ (x : List (List ℕ)). codes "args" ∷ x) (sym w.completes.4)))
    (w.completes.0, w.completes.1, w.completes.2, w.completes.3)
said_written (ToRegs n a b c) t l ls m end going p read more =
    let f = regs_found n a b c p.first p.others _ t p.told in
    let w = subst (λ (r : Sofar). IsWritten r ls m end) f.4 (more (ap has_ended f.4)) in
    let texts = texts_are l p.first p.others (codes "regs") f.0 p.words f.1.first f.1.read.words in
    let whole : m ≡ with_entries (head_of n a b c f.0) w.entries = w.completes in
    with_head (ToRegs n a b c) (ToEntries (head_of n a b c f.0)) l ls m end p.short (ap says_nothing p.words ∙ p.said)
    w
    (ap (λ (x : List (List ℕ)). x ∷ []) (texts ∙ ap (λ (x : List (List ℕ)). codes "regs" ∷ x)
    (sym (ap (λ (k : Machine). k.regs) whole)))) (
      ap (λ (k : Machine). k.entries) whole,
      ap (λ (k : Machine). k.name) whole,
      ap (λ (k : Machine). k.frame) whole,
      ap (λ (k : Machine). k.result) whole,
      ap (λ (k : Machine). k.args) whole,
    )
said_written (ToEntries k) t l ls m end going p read more = elim (entry_found k l p.first p.others t p.told) [
  | inl f ↦ with_insn k f.entry l ls m end p.short (ap says_nothing p.words ∙ p.said)
      (record {
        first = begins_with l p.first p.others p.words f.first;
        written = entry_written l.bytes f.entry f.read;
      })
      (subst (λ (r : Sofar). IsWritten r ls m end) f.next (more (ap has_ended f.next)))
  | inr f ↦ with_end k l ls m end p.short (ap says_nothing p.words ∙ p.said)
      (texts_are l p.first p.others (codes "end") [] p.words f.first (ap (map bytes_of) f.alone))
      (subst (λ (r : Sofar). read_each step r ls ≡ Ok (Ended m end)) f.next read)
]
said_written (Ended k at) t l ls m end going p read more = absurd (false≢true (sym going))

written : (ls : List Numbered) (s : Sofar) (m : Machine) (end : Spot) → has_ended s ≡ false → read_each step s ls
    ≡ Ok (Ended m end) → IsWritten s ls m end
written [] s m end going read = absurd (false≢true (sym going ∙ ap has_ended (none_read s (Ended m end) read)))
written (l ∷ ls) s m end going read =
    let first = first_read s (Ended m end) l ls read in
    elim (step_found s l first.0 first.1 going) [
      | inl p ↦ skipped s l ls m end p.0 (written ls s m end going
          (subst (λ (r : Sofar). read_each step r ls ≡ Ok (Ended m end)) p.1 first.2))
      | inr p ↦ said_written s first.0 l ls m end going p first.2 (λ h. written ls first.0 m end h first.2)
    ]

finished : (n : ℕ) (s : Sofar) (m : Machine) (at : Spot) → finish n s ≡ Ok (m, at) → s ≡ Ended m at
unfolding finish
finished n ToMachine m at e = absurd (not_ok e)
finished n (ToFrame a) m at e = absurd (not_ok e)
finished n (ToResult a b) m at e = absurd (not_ok e)
finished n (ToArgs a b c) m at e = absurd (not_ok e)
finished n (ToRegs a b c d) m at e = absurd (not_ok e)
finished n (ToEntries k) m at e = absurd (not_ok e)
finished n (Ended k spot) m at e =
    let same : ◌≡◌ {A = Machine × Spot} (k, spot) (m, at) = ok_is e in
    ap (λ (p : Machine × Spot). Ended p.0 p.1) same

-- lines that are read to the end of a machine begin with its description
pub read_begins : (ls : List Numbered) (m : Machine) (at : Spot) → read_each step ToMachine ls ≡ Ok (Ended m at)
    → BeginWith ls m at
read_begins ls m at read =
    let w = written ls ToMachine m at refl read in
    record {
      front = w.front ++ w.last ∷ [];
      back = w.back;
      last = w.last;
      cut = w.cut ∙ sym (append_assoc w.front (w.last ∷ []) w.back);
      describe = record {
        front = w.front;
        cut = refl;
        short = w.short;
        heads = w.heads;
        insns = w.insns;
        said = w.said;
        head_lines = w.head_lines;
        insn_lines = subst (λ (es : List Entry). AreInsnLines w.insns es) (sym w.completes) w.insn_lines;
        end_line = w.end_line;
        allowed = machine_is m at (each_fine ls ToMachine (Ended m at) read none_fine);
      };
      place = w.place;
    }

pub read_describes : (ls : List Numbered) (n : ℕ) (m : Machine) (at : Spot) → described ls n ≡ Ok (m, at)
    → BeginWith ls m at
unfolding described
read_describes ls n m at e =
    let first = bind_ok (read_each step ToMachine ls) (λ (s : Sofar). finish n s) (m, at) e in
    let is = finished n first.0 m at first.2 in
    read_begins ls m at (first.1 ∙ ap Ok is)

all_then : (xs ys : List Numbered) (s t : Sofar) → read_each step s xs ≡ Ok t → read_each step s (xs ++ ys)
    ≡ read_each step t ys
all_then [] ys s t e = ap (λ (r : Sofar). read_each step r ys) (none_read s t e)
all_then (x ∷ xs) ys s t e =
    let first = first_read s t x xs e in
    more_read s first.0 x (xs ++ ys) (read_each step t ys) first.1 (all_then xs ys first.0 t first.2)

described_by : (m : Machine) (at : Spot) (ls : List Numbered) (n : ℕ) → read_each step ToMachine ls ≡ Ok (Ended m at)
    → described ls n ≡ Ok (m, at)
unfolding described finish
described_by m at ls n e = rw e refl

pub described_is_read : (ls : List Numbered) (n : ℕ) (m : Machine) (at : Spot) → BeginWith ls m at → described ls n
    ≡ Ok (m, at)
described_is_read ls n m at b =
    let front = description_again b.front m b.last b.describe in
    let read : read_each step ToMachine (b.front ++ b.back) ≡ Ok (Ended m (behind b.last)) =
    all_then b.front b.back ToMachine (Ended m (behind b.last)) front ∙ rest_ended (Ended m (behind b.last))
    b.back refl in
    described_by m at ls n (ap (read_each step ToMachine) b.cut ∙ read ∙ ap (λ (s : Spot). Ok (Ended m s))
    (sym b.place))
