-- Lines that describe a machine are read as it.
use Rattle.std.proofs.Common.{◌≡◌, ℕ, ◌+◌, ◌<◌, ◌≤◌, List, [], ◌∷◌, ◌++◌, Bool, true, false, Ok, refl, ap, sym, ◌∙◌}
use Rattle.std.proofs.Common.{subst, length, length-append, map, codes, append_assoc, append-nil, arith, ◌⊎◌, inl}
use Rattle.std.proofs.Common.{inr}
use Rattle.std.specs.Prelude.{All, IsTrue}
use Rattle.std.specs.List.{AllByRecursion}
use Rattle.std.proofs.lemmas.List.Elements.{All-head, All-tail}
use Rattle.po_name.specs.Names.{is_name}
use Rattle.po_lines.specs.Forms.{says_nothing}
use Rattle.po_lines.specs.Lines.{Numbered}
use Rattle.po_lines.specs.Reading.{read_each}
use Rattle.po_lines.specs.Words.{Placed, words_in}
use Rattle.po_lines.proofs.WordLaws.{bytes_of}
use Rattle.po_model.specs.declared.machine.Entry.{Entry}
use Rattle.po_model.specs.declared.machine.Machine.{Machine}
use Rattle.po_model.specs.Entries.{IsEntry}
use Rattle.po_entry.proofs.ReadsLine.{entry_reads}
use Rattle.po_mdread.specs.declared.sofar.Sofar.{Sofar}
use Rattle.po_mdread.specs.declared.sofar.Sofar.TheVariants.{ToMachine, ToFrame, ToResult, ToArgs, ToRegs, ToEntries}
use Rattle.po_mdread.specs.declared.sofar.Sofar.TheVariants.{Ended}
use Rattle.po_mdread.specs.Description.{said_lines, line_texts, BeginsWith, IsInsnLine, AreInsnLines, IsDescription}
use Rattle.po_mdread.specs.Reading.{behind, with_entry, some_line, has_ended, step}
use Rattle.po_mdread.proofs.Again.{AreNew, has_words, said_step, silent_step, machine_again, frame_again}
use Rattle.po_mdread.proofs.Again.{result_again, args_again, regs_again, insn_again, end_again}
use Rattle.po_mdread.proofs.Ended.{rest_ended}
use Rattle.po_mdread.proofs.LinesFound.{head_of}
use Rattle.po_mdread.proofs.NameLaws.{AreNames}
use Rattle.po_mdread.proofs.New.{new_from, new_front, new_back, names_front, names_back}
use Rattle.po_mdread.proofs.Spots.{more_read}

abbrev pub AreShort : List Numbered → Type 0
AreShort ls = AllByRecursion (λ l. length l.bytes ≤ 4096) ls

-- the next line that says something, and the lines behind it
pub record Reached (s : Sofar) (ls : List Numbered) (l : Numbered) (rest : List Numbered) : Type 0 where
  pub more : List Numbered
  pub read : read_each step s ls ≡ read_each step s (l ∷ more)
  pub said : said_lines more ≡ rest
  pub short : AreShort more
  pub here : length l.bytes ≤ 4096
  pub speaks : says_nothing (words_in l.bytes) ≡ false

pub silent_first : (x : Numbered) (xs : List Numbered) → says_nothing (words_in x.bytes) ≡ true → said_lines (x ∷ xs)
    ≡ said_lines xs
silent_first x xs h = rw h refl

pub said_first : (x : Numbered) (xs : List Numbered) → says_nothing (words_in x.bytes) ≡ false → said_lines (x ∷ xs)
    ≡ x ∷ said_lines xs
said_first x xs h = rw h refl

either : (b : Bool) → (b ≡ true) ⊎ (b ≡ false)
either true = inl refl
either false = inr refl

cons_is : {A : Type 0} (x y : A) (xs ys : List A) → ◌≡◌ {A = List A} (x ∷ xs) (y ∷ ys) → (x ≡ y) × (xs ≡ ys)
cons_is x y xs ys e = (cc, cc)

cons_none : {A : Type 0} (x : A) (xs : List A) → ◌≡◌ {A = List A} (x ∷ xs) [] → ⊥
cons_none x xs e = cc

none_cons : {A : Type 0} (x : A) (xs : List A) → ◌≡◌ {A = List A} [] (x ∷ xs) → ⊥
none_cons x xs e = cc

pub reach : (s : Sofar) (ls : List Numbered) (l : Numbered) (rest : List Numbered) → AreShort ls → said_lines ls ≡ l
    ∷ rest → Reached s ls l rest
reach s [] l rest short e = absurd (none_cons l rest e)
reach s (x ∷ xs) l rest short e = elim (either (says_nothing (words_in x.bytes))) [
  | inl h ↦ (let r = reach s xs l rest short.1 (sym (silent_first x xs h) ∙ e) in
      record {
        more = r.more;
        read = more_read s s x xs (read_each step s (l ∷ r.more)) (silent_step s x short.0 h) r.read;
        said = r.said;
        short = r.short;
        here = r.here;
        speaks = r.speaks;
      })
  | inr h ↦ (let p = cons_is x l (said_lines xs) rest (sym (said_first x xs h) ∙ e) in
      record {
        more = xs;
        read = ap (λ (y : Numbered). read_each step s (y ∷ xs)) p.0;
        said = p.1;
        short = short.1;
        here = subst (λ (y : Numbered). length y.bytes ≤ 4096) p.0 short.0;
        speaks = subst (λ (y : Numbered). says_nothing (words_in y.bytes) ≡ false) p.0 h;
      })
]

-- how the line is read
abbrev pub Takes : Sofar → Sofar → Numbered → List ℕ → List (List ℕ) → Type 0
Takes s t l text names = (w : Placed) (ws : List Placed) → w.bytes ≡ text → map bytes_of ws ≡ names
    → some_line s l w ws ≡ Ok t

pub told : (s t : Sofar) (l : Numbered) (text : List ℕ) (names : List (List ℕ)) → length l.bytes ≤ 4096
    → says_nothing (words_in l.bytes) ≡ false → has_ended s ≡ false
    → line_texts l ≡ text ∷ names → Takes s t l text names → step s l ≡ Ok t
told s t l text names here speaks going e takes =
    let h = has_words l text names e in
    said_step s t l h.first h.others here h.words (sym (ap says_nothing h.words) ∙ speaks) going
    (takes h.first h.others h.is h.behind)

-- what stands behind a head line
pub record Passed (s t : Sofar) (ls : List Numbered) (tail : List Numbered) (texts : List (List (List ℕ))) : Type 0
  where
    pub more : List Numbered
    pub heads : List Numbered
    pub read : read_each step s ls ≡ read_each step t more
    pub said : said_lines more ≡ heads ++ tail
    pub short : AreShort more
    pub lines : map line_texts heads ≡ texts

pub pass : (s t : Sofar) (ls heads tail : List Numbered) (text : List ℕ) (names : List (List ℕ))
    (texts : List (List (List ℕ))) → AreShort ls → said_lines ls ≡ heads ++ tail
    → map line_texts heads ≡ (text ∷ names) ∷ texts → has_ended s ≡ false → ((l : Numbered) → Takes s t l text names)
    → Passed s t ls tail texts
pass s t ls [] tail text names texts short e f going takes = absurd (none_cons (text ∷ names) texts f)
pass s t ls (l ∷ heads) tail text names texts short e f going takes =
    let r = reach s ls l (heads ++ tail) short e in
    let p = cons_is (line_texts l) (text ∷ names) (map line_texts heads) texts f in
    let one : step s l ≡ Ok t = told s t l text names r.here r.speaks going p.0 (takes l) in
    record {
      more = r.more;
      heads = heads;
      read = r.read ∙ more_read s t l r.more (read_each step t r.more) one refl;
      said = r.said;
      short = r.short;
      lines = p.1;
    }

abbrev pub with_entries : Machine → List Entry → Machine
with_entries m es = record {
  name = m.name;
  frame = m.frame;
  result = m.result;
  args = m.args;
  regs = m.regs;
  entries = m.entries ++ es;
}

pub no_entries : (m : Machine) → with_entries m [] ≡ m
no_entries m = ap (λ (es : List Entry). let n : Machine = record {
  name = m.name;
  frame = m.frame;
  result = m.result;
  args = m.args;
  regs = m.regs;
  entries = es;
} in n) (append-nil m.entries)

pub more_entries : (m : Machine) (e : Entry) (es : List Entry) → with_entries (with_entry m e) es ≡ with_entries m
    (e ∷ es)
more_entries m e es = ap (λ (xs : List Entry). let n : Machine = record {
  name = m.name;
  frame = m.frame;
  result = m.result;
  args = m.args;
  regs = m.regs;
  entries = xs;
} in n) (append_assoc m.entries (e ∷ []) es)

insn_step : (m : Machine) (l : Numbered) (e : Entry) (ws : List Placed) → words_in l.bytes ≡ ws
    → BeginsWith (codes "insn") (map bytes_of ws) → length l.bytes ≤ 4096 → says_nothing (words_in l.bytes) ≡ false
    → (w : Placed) × (vs : List Placed) × (words_in l.bytes ≡ w ∷ vs) × (w.bytes ≡ codes "insn")
insn_step m l e [] is h here speaks = absurd h
insn_step m l e (w ∷ ws) is h here speaks = (w, ws, is, h)

entry_step : (m : Machine) (l : Numbered) (e : Entry) → IsEntry e → IsInsnLine l e → length l.bytes ≤ 4096
    → says_nothing (words_in l.bytes) ≡ false → length m.entries < 512 → step (ToEntries m) l
    ≡ Ok (ToEntries (with_entry m e))
unfolding some_line
entry_step m l e allowed h here speaks room =
    let w = insn_step m l e (words_in l.bytes) refl h.first here speaks in
    said_step (ToEntries m) (ToEntries (with_entry m e)) l w.0 w.1 here w.2 (sym (ap says_nothing w.2) ∙ speaks) refl
    (insn_again m l w.0 w.1 e w.3 (entry_reads e l.bytes allowed h.written) room)

pub entries_again : (es : List Entry) (insns : List Numbered) (m : Machine) (ls : List Numbered) (last : Numbered)
    → AreShort ls → said_lines ls ≡ insns ++ last ∷ [] → AreInsnLines insns es → All IsEntry es
    → length m.entries + length es ≤ 512 → line_texts last ≡ codes "end" ∷ [] → read_each step (ToEntries m) ls
    ≡ Ok (Ended (with_entries m es) (behind last))
unfolding some_line
entries_again [] [] m ls last short e h each few end =
    let r = reach (ToEntries m) ls last [] short e in
    let one : step (ToEntries m) last ≡ Ok (Ended m (behind last)) = told (ToEntries m) (Ended m (behind last)) last
    (codes "end") [] r.here r.speaks refl end (λ w ws is none. end_again m last w ws is none) in
    r.read ∙ more_read (ToEntries m) (Ended m (behind last)) last r.more (Ok (Ended m (behind last))) one
    (rest_ended (Ended m (behind last)) r.more refl) ∙ ap (λ (n : Machine). Ok (Ended n (behind last)))
    (sym (no_entries m))
entries_again [] (l ∷ ls) m lines last short e h each few end = absurd h
entries_again (x ∷ es) [] m lines last short e h each few end = absurd h
entries_again (x ∷ es) (l ∷ insns) m ls last short e h each few end =
    let r = reach (ToEntries m) ls l (insns ++ last ∷ []) short e in
    let one = entry_step m l x (All-head IsEntry x es each) h.0 r.here r.speaks (omega (arith, few)) in
    let long = length-append m.entries (x ∷ []) in
    let next = entries_again es insns (with_entry m x) r.more last r.short r.said h.1
    (All-tail IsEntry x es each) (omega (arith, few)) end in
    r.read ∙ more_read (ToEntries m) (ToEntries (with_entry m x)) l r.more
    (Ok (Ended (with_entries (with_entry m x) es) (behind last))) one next
    ∙ ap (λ (n : Machine). Ok (Ended n (behind last))) (more_entries m x es)

pub names_by : (xs : List (List ℕ)) → All (λ n. IsTrue (is_name n)) xs → AreNames xs
names_by [] h = tt
names_by (x ∷ xs) h = (
  All-head (λ n. IsTrue (is_name n)) x xs h,
  names_by xs
      (All-tail (λ n. IsTrue (is_name n)) x xs h),
)

pub description_again : (lines : List Numbered) (m : Machine) (last : Numbered) → IsDescription lines m last
    → read_each step ToMachine lines ≡ Ok (Ended m (behind last))
unfolding some_line
description_again lines m last d =
    let tail : List Numbered = d.insns ++ last ∷ [] in
    let ok = d.allowed in
    let named : AreNames (m.frame ∷ m.result ∷ (m.args ++ m.regs)) =
    names_by (m.frame ∷ m.result ∷ (m.args ++ m.regs)) ok.registers in
    let new : AreNew (m.frame ∷ []) (m.result ∷ (m.args ++ m.regs)) =
    new_from (m.frame ∷ []) (m.result ∷ (m.args ++ m.regs)) ok.differ in
    let a = pass ToMachine (ToFrame m.name) lines d.heads tail _ _ _ d.short d.said d.head_lines refl
    (λ l w ws e f. machine_again w ws _ m.name e f ok.name) in
    let b = pass (ToFrame m.name) (ToResult m.name m.frame) a.more a.heads tail _ _ _ a.short a.said a.lines refl
    (λ l w ws e f. frame_again m.name w ws _ m.frame e f named.0) in
    let c = pass (ToResult m.name m.frame) (ToArgs m.name m.frame m.result) b.more b.heads tail _ _ _ b.short b.said
    b.lines refl (λ l w ws e f. result_again m.name m.frame w ws _ m.result e f named.1.0 (new.0, tt)) in
    let g = pass (ToArgs m.name m.frame m.result) (ToRegs m.name m.frame m.result m.args) c.more c.heads tail _ _ _
    c.short c.said c.lines refl
    (λ l w ws e f. args_again m.name m.frame m.result w ws _ m.args e f (names_front m.args m.regs named.1.1) ok.four
    (new_front (m.frame ∷ m.result ∷ []) m.args m.regs new.1)) in
    let i = pass (ToRegs m.name m.frame m.result m.args) (ToEntries (head_of m.name m.frame m.result m.args m.regs))
    g.more g.heads tail _ _ _ g.short g.said g.lines refl
    (λ l w ws e f. regs_again m.name m.frame m.result m.args w ws _ m.regs e f (names_back m.args m.regs named.1.1)
    ok.some ok.few (new_back (m.frame ∷ m.result ∷ []) m.args m.regs new.1)) in
    let most = ok.entries in
    let rest = entries_again m.entries d.insns (head_of m.name m.frame m.result m.args m.regs) i.more last i.short
    (i.said ∙ no_heads i.heads tail i.lines) d.insn_lines ok.each (omega arith) d.end_line in
    a.read ∙ b.read ∙ c.read ∙ g.read ∙ i.read ∙ rest
  where
    no_heads : (heads tail : List Numbered) → map line_texts heads ≡ [] → heads ++ tail ≡ tail
    no_heads [] tail e = refl
    no_heads (l ∷ ls) tail e = absurd (cons_none (line_texts l) (map line_texts ls) e)
