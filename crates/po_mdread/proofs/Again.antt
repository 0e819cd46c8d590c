-- A line that has its form is read.
use Rattle.std.proofs.Common.{◌≡◌, ℕ, suc, ◌<◌, ◌≤◌, List, [], ◌∷◌, ◌++◌, Bool, true, false, Ok, refl, ap, sym, ◌∙◌}
use Rattle.std.proofs.Common.{subst, length, take, drop, map, codes, arith, ◌⊎◌, inl, inr}
use Rattle.std.specs.Prelude.{⊤, nat_lt, ◌==◌}
use Rattle.std.proofs.lemmas.Bool.Decides.{nat_tests}
use Rattle.std.proofs.lemmas.Cmp.{nat_list_eq_equiv}
use Rattle.std.proofs.lemmas.List.{drop_all}
use Rattle.po_name.specs.Names.{is_name}
use Rattle.po_lines.specs.Forms.{says_nothing, first_word, no_more, rest_words, name_alone}
use Rattle.po_lines.specs.Leaves.{keyword_in, name_in, same}
use Rattle.po_lines.specs.Lines.{Numbered}
use Rattle.po_lines.specs.NameList.{has}
use Rattle.po_lines.specs.Words.{Placed, line_words, words_in}
use Rattle.po_lines.proofs.NameLaws.{name_again}
use Rattle.po_lines.proofs.WordLaws.{bytes_of}
use Rattle.po_model.specs.declared.machine.Entry.{Entry}
use Rattle.po_model.specs.declared.machine.Machine.{Machine}
use Rattle.po_entry.specs.Reading.{entry_in}
use Rattle.po_mdread.specs.declared.sofar.Sofar.{Sofar}
use Rattle.po_mdread.specs.declared.sofar.Sofar.TheVariants.{ToFrame, ToResult, ToArgs, ToRegs, ToEntries, Ended}
use Rattle.po_mdread.specs.NameLines.{names_in, at_least, none_past, four_names, register_names, with_new}
use Rattle.po_mdread.specs.Reading as reading
use Rattle.po_mdread.specs.Reading.{behind, with_entry, some_line, words_line, line_in, has_ended, step}
use Rattle.po_mdread.proofs.NameLaws.{AreNames}
use Rattle.po_mdread.proofs.LinesFound.{head_of}

pub keyword_again : (text : List ℕ) (w : Placed) → w.bytes ≡ text → keyword_in text w ≡ Ok tt
unfolding keyword_in
keyword_again text w e =
    let yes : same w.bytes text ≡ true = subst (λ (t : List ℕ). same w.bytes t ≡ true) e
    (nat_list_eq_equiv.refl w.bytes) in
    rw yes refl

name_here : (w : Placed) (name : List ℕ) → w.bytes ≡ name → is_name name ≡ true → name_in w ≡ Ok name
name_here w name e h = name_again w (subst (λ (n : List ℕ). is_name n ≡ true) (sym e) h) ∙ ap Ok e

cons_is : {A : Type 0} (x y : A) (xs ys : List A) → ◌≡◌ {A = List A} (x ∷ xs) (y ∷ ys) → (x ≡ y) × (xs ≡ ys)
cons_is x y xs ys e = (cc, cc)

cons_none : {A : Type 0} (x : A) (xs : List A) → ◌≡◌ {A = List A} (x ∷ xs) [] → ⊥
cons_none x xs e = cc

none_cons : {A : Type 0} (x : A) (xs : List A) → ◌≡◌ {A = List A} [] (x ∷ xs) → ⊥
none_cons x xs e = cc

pub names_again : (ws : List Placed) (names : List (List ℕ)) → map bytes_of ws ≡ names → AreNames names → names_in ws
    ≡ Ok names
unfolding names_in
names_again [] [] e h = refl
names_again [] (n ∷ ns) e h = absurd (none_cons n ns e)
names_again (w ∷ ws) [] e h = absurd (cons_none w.bytes (map bytes_of ws) e)
names_again (w ∷ ws) (n ∷ ns) e h =
    let p = cons_is w.bytes n (map bytes_of ws) ns e in
    let first : name_in w ≡ Ok n = name_here w n p.0 h.0 in
    let rest : names_in ws ≡ Ok ns = names_again ws ns p.1 h.1 in
    rw (first, rest) refl

no_more_again : no_more [] ≡ Ok tt
unfolding no_more
no_more_again = refl

nil_is : (ws : List Placed) → map bytes_of ws ≡ [] → ws ≡ []
nil_is [] e = refl
nil_is (w ∷ ws) e = absurd (cons_none w.bytes (map bytes_of ws) e)

pub alone_again : (ws : List Placed) (end : ℕ) (name : List ℕ) → map bytes_of ws ≡ name ∷ [] → is_name name ≡ true
    → name_alone ws end ≡ Ok name
unfolding name_alone first_word rest_words
alone_again [] end name e h = absurd (none_cons name [] e)
alone_again (w ∷ ws) end name e h =
    let p = cons_is w.bytes name (map bytes_of ws) [] e in
    let first : name_in w ≡ Ok name = name_here w name p.0 h in
    let none : no_more ws ≡ Ok tt = ap no_more (nil_is ws p.1) ∙ no_more_again in
    rw (first, none) refl

length_words : (ws : List Placed) → length (map bytes_of ws) ≡ length ws
length_words [] = refl
length_words (w ∷ ws) = ap suc (length_words ws)

take_four : (ws : List Placed) → length ws ≡ 4 → take 4 ws ≡ ws
take_four [] e = refl
take_four (a ∷ []) e = refl
take_four (a ∷ b ∷ []) e = refl
take_four (a ∷ b ∷ c ∷ []) e = refl
take_four (a ∷ b ∷ c ∷ d ∷ []) e = refl
take_four (a ∷ b ∷ c ∷ d ∷ f ∷ ws) e = absurd (omega (arith, e))

enough_again : (n : ℕ) (ws : List Placed) (end : ℕ) → n ≤ length ws → at_least n ws end ≡ Ok tt
unfolding at_least
enough_again n ws end h = let no : nat_lt (length ws) n ≡ false = grind (arith, nat_tests) in rw no refl

pub four_again : (ws : List Placed) (end : ℕ) (names : List (List ℕ)) → map bytes_of ws ≡ names → AreNames names
    → length names ≡ 4 → four_names ws end ≡ Ok names
unfolding four_names
four_again ws end names e h four =
    let long : length ws ≡ 4 = sym (length_words ws) ∙ ap length e ∙ four in
    let read : names_in (take 4 ws) ≡ Ok names = ap names_in (take_four ws long) ∙ names_again ws names e h in
    let enough : at_least 4 ws end ≡ Ok tt = enough_again 4 ws end (omega arith) in
    let none : no_more (drop 4 ws) ≡ Ok tt = ap no_more (drop_all 4 ws (omega arith)) ∙ no_more_again in
    rw (read, enough, none) refl

none_past_again : none_past [] ≡ Ok tt
unfolding none_past
none_past_again = refl

pub record SomeWord (ws : List Placed) (end : ℕ) : Type 0 where
  pub first : Placed
  pub is : first_word ws end ≡ Ok first

some_again : (ws : List Placed) (end : ℕ) → 1 ≤ length ws → SomeWord ws end
unfolding first_word
some_again [] end h = absurd (omega (arith, h))
some_again (w ∷ ws) end h = record { first = w; is = refl }

pub registers_again : (ws : List Placed) (end : ℕ) (names : List (List ℕ)) → map bytes_of ws ≡ names → AreNames names
    → 1 ≤ length names → length names ≤ 64 → register_names ws end ≡ Ok names
unfolding register_names
registers_again ws end names e h some few =
    let long : length ws ≡ length names = sym (length_words ws) ∙ ap length e in
    let none : none_past (drop 64 ws) ≡ Ok tt = ap none_past (drop_all 64 ws (omega arith)) ∙ none_past_again in
    let first = some_again ws end (omega arith) in
    let here = first.is in
    rw (none, here) (names_again ws names e h)

-- names that aren't there already
abbrev pub AreNew : List (List ℕ) → List (List ℕ) → Type 0
AreNew before [] = ⊤
AreNew before (n ∷ ns) = (has n before ≡ false) × AreNew (before ++ n ∷ []) ns

pub new_again : (names more : List (List ℕ)) (ws : List Placed) → map bytes_of ws ≡ more → AreNew names more
    → (all : List (List ℕ)) × (with_new names ws ≡ Ok all)
unfolding with_new
new_again names more [] e h = (names, refl)
new_again names [] (w ∷ ws) e h = absurd (cons_none w.bytes (map bytes_of ws) e)
new_again names (n ∷ ns) (w ∷ ws) e h =
    let p = cons_is w.bytes n (map bytes_of ws) ns e in
    let no : has w.bytes names ≡ false = ap (λ (x : List ℕ). has x names) p.0 ∙ h.0 in
    let rest = new_again (names ++ w.bytes ∷ []) ns ws p.1 (subst (λ (x : List ℕ). AreNew (names ++ x ∷ []) ns)
    (sym p.0) h.1) in
    (rest.0, rw no rest.1)

-- the words of a line: its first, and those behind it
pub record HasWords (l : Numbered) (text : List ℕ) (names : List (List ℕ)) : Type 0 where
  pub first : Placed
  pub others : List Placed
  pub words : words_in l.bytes ≡ first ∷ others
  pub is : first.bytes ≡ text
  pub behind : map bytes_of others ≡ names

words_by : (l : Numbered) (ws : List Placed) (text : List ℕ) (names : List (List ℕ)) → words_in l.bytes ≡ ws
    → map bytes_of ws ≡ text ∷ names → HasWords l text names
words_by l [] text names e h = absurd (none_cons text names h)
words_by l (w ∷ ws) text names e h =
    let p = cons_is w.bytes text (map bytes_of ws) names h in
    record { first = w; others = ws; words = e; is = p.0; behind = p.1 }

pub has_words : (l : Numbered) (text : List ℕ) (names : List (List ℕ)) → map bytes_of (words_in l.bytes) ≡ text
    ∷ names → HasWords l text names
has_words l text names h = words_by l (words_in l.bytes) text names refl h

short_again : (line : List ℕ) → length line ≤ 4096 → line_words line ≡ Ok (words_in line)
unfolding line_words
short_again line h = let no : nat_lt 4096 (length line) ≡ false = grind (arith, nat_tests) in rw no refl

words_said : (s : Sofar) (l : Numbered) (w : Placed) (ws : List Placed) → says_nothing (w ∷ ws) ≡ false
    → words_line s l (w ∷ ws) ≡ some_line s l w ws
unfolding words_line
words_said s l w ws e = rw e refl

words_silent : (s : Sofar) (l : Numbered) (ws : List Placed) → says_nothing ws ≡ true → words_line s l ws ≡ Ok s
unfolding words_line
words_silent s l [] e = refl
words_silent s l (w ∷ ws) e = rw e refl

-- a line that says something is read as its form says
pub said_step : (s t : Sofar) (l : Numbered) (w : Placed) (ws : List Placed) → length l.bytes ≤ 4096
    → words_in l.bytes ≡ w ∷ ws → says_nothing (w ∷ ws) ≡ false → has_ended s ≡ false
    → some_line s l w ws ≡ Ok t → step s l ≡ Ok t
unfolding step line_in
said_step s t l w ws short e said going told =
    let words : line_words l.bytes ≡ Ok (words_in l.bytes) = short_again l.bytes short in
    let line : words_line s l (words_in l.bytes) ≡ Ok t = ap (words_line s l) e ∙ words_said s l w ws said ∙ told in
    rw (going, words, line) refl

either : (b : Bool) → (b ≡ true) ⊎ (b ≡ false)
either true = inl refl
either false = inr refl

-- one that says nothing is passed over
pub silent_step : (s : Sofar) (l : Numbered) → length l.bytes ≤ 4096 → says_nothing (words_in l.bytes) ≡ true
    → step s l ≡ Ok s
unfolding step line_in
silent_step s l short silent = elim (either (has_ended s)) [
  | inl done ↦ rw done refl
  | inr going ↦ (let words : line_words l.bytes ≡ Ok (words_in l.bytes) = short_again l.bytes short in
      let line : words_line s l (words_in l.bytes) ≡ Ok s = words_silent s l (words_in l.bytes) silent in
      rw (going, words, line) refl)
]

-- the forms of the lines
pub machine_again : (w : Placed) (ws : List Placed) (end : ℕ) (name : List ℕ) → w.bytes ≡ codes "machine"
    → map bytes_of ws ≡ name ∷ [] → is_name name ≡ true
    → reading.machine_line w ws end ≡ Ok (ToFrame name)
unfolding reading.machine_line
machine_again w ws end name e f h =
    let first : keyword_in (codes "machine") w ≡ Ok tt = keyword_again (codes "machine") w e in
    let read : name_alone ws end ≡ Ok name = alone_again ws end name f h in
    rw (first, read) refl

pub frame_again : (n : List ℕ) (w : Placed) (ws : List Placed) (end : ℕ) (name : List ℕ) → w.bytes ≡ codes "frame"
    → map bytes_of ws ≡ name ∷ [] → is_name name ≡ true
    → reading.frame_line n w ws end ≡ Ok (ToResult n name)
unfolding reading.frame_line
frame_again n w ws end name e f h =
    let first : keyword_in (codes "frame") w ≡ Ok tt = keyword_again (codes "frame") w e in
    let read : name_alone ws end ≡ Ok name = alone_again ws end name f h in
    rw (first, read) refl

pub result_again : (n a : List ℕ) (w : Placed) (ws : List Placed) (end : ℕ) (name : List ℕ) → w.bytes ≡ codes "result"
    → map bytes_of ws ≡ name ∷ [] → is_name name ≡ true → AreNew (a ∷ []) (name ∷ [])
    → reading.result_line n a w ws end ≡ Ok (ToArgs n a name)
unfolding reading.result_line
result_again n a w ws end name e f h new =
    let first : keyword_in (codes "result") w ≡ Ok tt = keyword_again (codes "result") w e in
    let read : name_alone ws end ≡ Ok name = alone_again ws end name f h in
    let all = new_again (a ∷ []) (name ∷ []) ws f new in
    let named = all.1 in
    rw (first, read, named) refl

pub args_again : (n a b : List ℕ) (w : Placed) (ws : List Placed) (end : ℕ) (args : List (List ℕ))
    → w.bytes ≡ codes "args" → map bytes_of ws ≡ args → AreNames args → length args ≡ 4 → AreNew (a ∷ b ∷ []) args
    → reading.args_line n a b w ws end ≡ Ok (ToRegs n a b args)
unfolding reading.args_line
args_again n a b w ws end args e f h four new =
    let first : keyword_in (codes "args") w ≡ Ok tt = keyword_again (codes "args") w e in
    let read : four_names ws end ≡ Ok args = four_again ws end args f h four in
    let all = new_again (a ∷ b ∷ []) args ws f new in
    let named = all.1 in
    rw (first, read, named) refl

pub regs_again : (n a b : List ℕ) (c : List (List ℕ)) (w : Placed) (ws : List Placed) (end : ℕ) (regs : List (List ℕ))
    → w.bytes ≡ codes "regs" → map bytes_of ws ≡ regs → AreNames regs
    → 1 ≤ length regs → length regs ≤ 64 → AreNew (a ∷ b ∷ c) regs → reading.regs_line n a b c w ws end
    ≡ Ok (ToEntries (head_of n a b c regs))
unfolding reading.regs_line
regs_again n a b c w ws end regs e f h some few new =
    let first : keyword_in (codes "regs") w ≡ Ok tt = keyword_again (codes "regs") w e in
    let read : register_names ws end ≡ Ok regs = registers_again ws end regs f h some few in
    let all = new_again (a ∷ b ∷ c) regs ws f new in
    let named = all.1 in
    rw (first, read, named) refl

pub insn_again : (m : Machine) (l : Numbered) (w : Placed) (ws : List Placed) (e : Entry) → w.bytes ≡ codes "insn"
    → entry_in l.bytes ≡ Ok e → length m.entries < 512
    → reading.entry_line m l w ws ≡ Ok (ToEntries (with_entry m e))
unfolding reading.entry_line reading.insn_line
insn_again m l w ws e is read room =
    let yes : same w.bytes (codes "insn") ≡ true = ap (λ (t : List ℕ). same t (codes "insn")) is in
    let no : (length m.entries == 512) ≡ false = grind (arith, nat_tests) in
    rw (yes, no, read) refl

pub end_again : (m : Machine) (l : Numbered) (w : Placed) (ws : List Placed) → w.bytes ≡ codes "end" → map bytes_of ws
    ≡ [] → reading.entry_line m l w ws ≡ Ok (Ended m (behind l))
unfolding reading.entry_line reading.end_line
end_again m l w ws is none =
    let not_insn : same w.bytes (codes "insn") ≡ false = ap (λ (t : List ℕ). same t (codes "insn")) is in
    let yes : same w.bytes (codes "end") ≡ true = ap (λ (t : List ℕ). same t (codes "end")) is in
    let nothing : no_more ws ≡ Ok tt = ap no_more (nil_is ws none) ∙ no_more_again in
    rw (not_insn, yes, nothing) refl
