-- A printed machine is read again.
use Rattle.std.proofs.Common.{◌≡◌, ℕ, ◌+◌, ◌≤◌, List, [], ◌∷◌, ◌++◌, false, Ok, refl, ap, ◌∙◌, subst, map, length}
use Rattle.std.proofs.Common.{length-append, codes, arith, ◌*◌}
use Rattle.std.specs.Prelude.{nat_eq}
use Rattle.std.proofs.lemmas.List.{length-map}
use Rattle.std.specs.List.{AllByRecursion, starts_with}
use Rattle.po_text.specs.declared.fault.Spot.{Spot}
use Rattle.po_lines.specs.Forms.{says_nothing}
use Rattle.po_lines.specs.Lines.{Numbered, lines_behind, line_behind}
use Rattle.po_lines.specs.Reading.{read_each}
use Rattle.po_lines.proofs.LimitLaws.{within_is}
use Rattle.po_lines.specs.Words.{Placed, words_in}
use Rattle.po_lines.proofs.WordLaws.{IsSolid, bytes_of}
use Rattle.po_model.specs.declared.machine.Entry.{Entry}
use Rattle.po_model.specs.declared.machine.Machine.{Machine}
use Rattle.po_model.specs.Machines.{IsMachine}
use Rattle.po_entry.specs.EntryText.{entry_text}
use Rattle.po_mdread.specs.declared.sofar.Sofar.TheVariants.{ToMachine, Ended}
use Rattle.po_mdread.specs.Description.{said_lines, line_texts, BeginsWith, AreInsnLines, head_texts, IsDescription}
use Rattle.po_mdread.specs.MachineText.{head_text, machine_lines, lines_text, machine_text, IsPrintable, end_of_text}
use Rattle.po_mdread.specs.Reading.{behind, start, step, finish, described, machine_in}
use Rattle.po_mdread.proofs.Again.{has_words}
use Rattle.po_mdread.proofs.Described.{AreShort, said_first, names_by, description_again}
use Rattle.po_mdread.proofs.NameLaws.{AreNames}
use Rattle.po_mdread.proofs.New.{names_front, names_back}
use Rattle.po_mdread.proofs.PrintedEntries.{IsReadAgain, all_again}
use Rattle.po_mdread.proofs.PrintedLines.{IsPlain, numbered, lines_again}
use Rattle.po_mdread.proofs.PrintedNames.{head_plain, head_words, solid_name, plain_name}

abbrev Speaks : Numbered → Type 0
Speaks l = says_nothing (words_in l.bytes) ≡ false

all_said : (ls : List Numbered) → AllByRecursion Speaks ls → said_lines ls ≡ ls
all_said [] h = refl
all_said (l ∷ ls) h = said_first l ls h.0 ∙ ap (λ (xs : List Numbered). l ∷ xs) (all_said ls h.1)

first_speaks : (w : Placed) (ws : List Placed) (text : List ℕ) → w.bytes ≡ text → starts_with nat_eq text (codes "//")
    ≡ false → says_nothing (w ∷ ws) ≡ false
unfolding says_nothing
first_speaks w ws text e h = ap (λ (t : List ℕ). starts_with nat_eq t (codes "//")) e ∙ h

head_speaks : (l : Numbered) (text : List ℕ) (names : List (List ℕ)) → line_texts l ≡ text ∷ names
    → starts_with nat_eq text (codes "//") ≡ false → Speaks l
head_speaks l text names e h =
    let w = has_words l text names e in
    ap says_nothing w.words ∙ first_speaks w.first w.others text w.is h

insn_by : (ws : List Placed) → BeginsWith (codes "insn") (map bytes_of ws) → says_nothing ws ≡ false
insn_by [] h = absurd h
insn_by (w ∷ ws) h = first_speaks w ws (codes "insn") h refl

-- the lines of the entries, and `end`
record IsTail (n o : ℕ) (es : List Entry) (all : List Numbered) : Type 0 where
  insns : List Numbered
  last : Numbered
  cut : all ≡ insns ++ last ∷ []
  are : AreInsnLines insns es
  end : line_texts last ≡ codes "end" ∷ []
  speak : AllByRecursion Speaks all
  place : behind last ≡ record {
    offset = o + length (lines_text (map entry_text es ++ codes "end" ∷ []));
    line = n + length (map entry_text es ++ codes "end" ∷ []);
  }

end_solid : IsSolid (codes "end")
end_solid = solid_name (codes "end") refl

end_texts : (n o : ℕ) → let l : Numbered = record { number = n; bytes = codes "end"; after = o } in
    line_texts l ≡ codes "end" ∷ []
end_texts n o = head_words (codes "end") [] end_solid tt

place_on : (last : Numbered) (n o k i j : ℕ) (x : List ℕ) (t : List ℕ) (ls : List (List ℕ)) → behind last
    ≡ record { offset = o + k + 1 + length t; line = n + 1 + j } → k ≡ length x → i ≡ j + 1
    → behind last ≡ record { offset = o + length ((x ++ 10 ∷ []) ++ t); line = n + i }
place_on last n o k i j x t ls e f g =
    let long = length-append (x ++ 10 ∷ []) t in
    let one = length-append x (10 ∷ []) in
    let offset : o + k + 1 + length t ≡ o + length ((x ++ 10 ∷ []) ++ t) = omega arith in
    let line : n + 1 + j ≡ n + i = omega arith in
    subst (λ (p : ℕ). behind last ≡ record { offset = p; line = n + i }) offset
    (subst (λ (q : ℕ). behind last ≡ record { offset = o + k + 1 + length t; line = q }) line e)

tail_is : (es : List Entry) (n o : ℕ) → AllByRecursion IsReadAgain es
    → IsTail n o es (numbered n o (map entry_text es ++ codes "end" ∷ []))
tail_is [] n o h = record {
  insns = [];
  last = record { number = n; bytes = codes "end"; after = o + 3 + 1 };
  cut = refl;
  are = tt;
  end = end_texts n (o + 3 + 1);
  speak = (
    head_speaks (record { number = n; bytes = codes "end"; after = o + 3 + 1 }) (codes "end") []
        (end_texts n (o + 3 + 1)) refl,
    tt,
  );
  place = ap (λ (k : ℕ). let s : Spot = record { offset = k; line = n + 1 } in s)
      (let far : o + 3 + 1 ≡ o + 4 = omega arith in far);
}
tail_is (e ∷ es) n o h =
    let line : Numbered = record { number = n; bytes = entry_text e; after = o + length (entry_text e) + 1 } in
    let t = tail_is es (n + 1) (o + length (entry_text e) + 1) h.1 in
    record {
      insns = line ∷ t.insns;
      last = t.last;
      cut = ap (λ (ls : List Numbered). line ∷ ls) t.cut;
      are = (record { first = h.0.first; written = h.0.written }, t.are);
      end = t.end;
      speak = (insn_by (words_in (entry_text e)) h.0.first, t.speak);
      place = place_on t.last n o (length (entry_text e)) _ (length (map entry_text es ++ codes "end" ∷ []))
          (entry_text e) (lines_text (map entry_text es ++ codes "end" ∷ [])) [] t.place refl (omega arith);
    }

short_lines : (xs : List (List ℕ)) (n o : ℕ) → AllByRecursion (λ x. length x ≤ 4096) xs → AreShort (numbered n o xs)
short_lines [] n o h = tt
short_lines (x ∷ xs) n o h = (h.0, short_lines xs (n + 1) (o + length x + 1) h.1)

plain_tail : (es : List Entry) → AllByRecursion IsReadAgain es → AllByRecursion IsPlain
    (map entry_text es ++ codes "end" ∷ [])
plain_tail [] h = (plain_name (codes "end") refl, tt)
plain_tail (e ∷ es) h = (h.0.plain, plain_tail es h.1)

head_is : {A : Type 0} (x y : A) (xs ys : List A) → ◌≡◌ {A = List A} (x ∷ xs) (y ∷ ys) → (x ≡ y) × (xs ≡ ys)
head_is x y xs ys e = (cc, cc)

five : {A : Type 0} (a b c d e v w x y z : A) → a ≡ v → b ≡ w → c ≡ x → d ≡ y → e ≡ z
    → ◌≡◌ {A = List A} (a ∷ b ∷ c ∷ d ∷ e ∷ []) (v ∷ w ∷ x ∷ y ∷ z ∷ [])
five a b c d e v w x y z f g h i j = rw (f, g, h, i, j) refl

-- the words of the head lines
head_lines_are : (m : Machine) → IsMachine m → AreNames (m.frame ∷ m.result ∷ (m.args ++ m.regs))
    → (a b c d e : Numbered) → a.bytes ≡ head_text (codes "machine") (m.name ∷ []) → b.bytes ≡ head_text
    (codes "frame") (m.frame ∷ [])
    → c.bytes ≡ head_text (codes "result") (m.result ∷ []) → d.bytes ≡ head_text (codes "args") m.args
    → e.bytes ≡ head_text (codes "regs") m.regs
    → map line_texts (a ∷ b ∷ c ∷ d ∷ e ∷ []) ≡ head_texts m
head_lines_are m ok named a b c d e fa fb fc fd fe =
    let texts : List ℕ → List (List ℕ) = λ (bytes : List ℕ). map bytes_of (words_in bytes) in
    five (line_texts a) (line_texts b) (line_texts c) (line_texts d) (line_texts e) _ _ _ _ _
    (ap texts fa ∙ head_words (codes "machine") (m.name ∷ []) (solid_name (codes "machine") refl) (ok.name, tt))
    (ap texts fb ∙ head_words (codes "frame") (m.frame ∷ []) (solid_name (codes "frame") refl) (named.0, tt))
    (ap texts fc ∙ head_words (codes "result") (m.result ∷ []) (solid_name (codes "result") refl) (named.1.0, tt))
    (ap texts fd ∙ head_words (codes "args") m.args (solid_name (codes "args") refl)
    (names_front m.args m.regs named.1.1))
    (ap texts fe ∙ head_words (codes "regs") m.regs (solid_name (codes "regs") refl)
    (names_back m.args m.regs named.1.1))

heads_speak : (m : Machine) (a b c d e : Numbered) → map line_texts (a ∷ b ∷ c ∷ d ∷ e ∷ []) ≡ head_texts m
    → AllByRecursion Speaks (a ∷ b ∷ c ∷ d ∷ e ∷ [])
heads_speak m a b c d e h =
    let one = head_is _ _ _ _ h in
    let two = head_is _ _ _ _ one.1 in
    let three = head_is _ _ _ _ two.1 in
    let four = head_is _ _ _ _ three.1 in
    let last = head_is _ _ _ _ four.1 in (
      head_speaks a (codes "machine") (m.name ∷ []) one.0 refl,
      (
        head_speaks b (codes "frame") (m.frame ∷ []) two.0 refl,
        (
          head_speaks c (codes "result") (m.result ∷ []) three.0 refl,
          (
            head_speaks d (codes "args") m.args four.0 refl,
            (head_speaks e (codes "regs") m.regs last.0 refl, tt),
          ),
        ),
      ),
    )

-- the lines of a machine, from the place of the first one on
record IsListing (m : Machine) (ls : List Numbered) : Type 0 where
  last : Numbered
  lines : IsDescription ls m last
  place : behind last ≡ end_of_text m

plain_lines : (m : Machine) → IsPrintable m → AreNames (m.frame ∷ m.result ∷ (m.args ++ m.regs))
    → AllByRecursion IsPlain (machine_lines m)
unfolding machine_lines
plain_lines m h named = (
  head_plain (codes "machine") (m.name ∷ []) (plain_name (codes "machine") refl) (h.allowed.name, tt),
  (
    head_plain (codes "frame") (m.frame ∷ []) (plain_name (codes "frame") refl) (named.0, tt),
    (
      head_plain (codes "result") (m.result ∷ []) (plain_name (codes "result") refl) (named.1.0, tt),
      (
        head_plain (codes "args") m.args (plain_name (codes "args") refl) (names_front m.args m.regs named.1.1),
        (
          head_plain (codes "regs") m.regs (plain_name (codes "regs") refl) (names_back m.args m.regs named.1.1),
          plain_tail m.entries (all_again m.entries h.allowed.each),
        ),
      ),
    ),
  ),
)

abbrev spot : ℕ → ℕ → Spot
spot offset line = record { offset = offset; line = line }

place_five : (a b c d e : List ℕ) (tail : List (List ℕ)) (last : Numbered)
    → behind last ≡ spot (0 + length a + 1 + length b + 1 + length c + 1 + length d + 1 + length e + 1 + length
    (lines_text tail)) (6 + length tail)
    → behind last ≡ spot (length (lines_text (a ∷ b ∷ c ∷ d ∷ e ∷ tail))) (length (a ∷ b ∷ c ∷ d ∷ e ∷ tail) + 1)
place_five a b c d e tail last h =
    let ea = length-append (a ++ 10 ∷ []) (lines_text (b ∷ c ∷ d ∷ e ∷ tail)) in
    let eb = length-append (b ++ 10 ∷ []) (lines_text (c ∷ d ∷ e ∷ tail)) in
    let ec = length-append (c ++ 10 ∷ []) (lines_text (d ∷ e ∷ tail)) in
    let ed = length-append (d ++ 10 ∷ []) (lines_text (e ∷ tail)) in
    let ee = length-append (e ++ 10 ∷ []) (lines_text tail) in
    let oa = length-append a (10 ∷ []) in
    let ob = length-append b (10 ∷ []) in
    let oc = length-append c (10 ∷ []) in
    let od = length-append d (10 ∷ []) in
    let oe = length-append e (10 ∷ []) in
    let offset : 0 + length a + 1 + length b + 1 + length c + 1 + length d + 1 + length e + 1 + length
    (lines_text tail) ≡ length (lines_text (a ∷ b ∷ c ∷ d ∷ e ∷ tail)) = omega arith in
    let line : 6 + length tail ≡ length (a ∷ b ∷ c ∷ d ∷ e ∷ tail) + 1 = omega arith in
    h ∙ ap (λ (k : ℕ). spot k (6 + length tail)) offset
    ∙ ap (λ (k : ℕ). spot (length (lines_text (a ∷ b ∷ c ∷ d ∷ e ∷ tail))) k) line

abbrev line_at : ℕ → ℕ → List ℕ → Numbered
line_at n o x = record { number = n; bytes = x; after = o + length x + 1 }

listing : (m : Machine) → IsPrintable m → AreNames (m.frame ∷ m.result ∷ (m.args ++ m.regs))
    → IsListing m (numbered 1 0 (machine_lines m))
unfolding machine_lines machine_text
listing m h named =
    let ta : List ℕ = head_text (codes "machine") (m.name ∷ []) in
    let tb : List ℕ = head_text (codes "frame") (m.frame ∷ []) in
    let tc : List ℕ = head_text (codes "result") (m.result ∷ []) in
    let td : List ℕ = head_text (codes "args") m.args in
    let te : List ℕ = head_text (codes "regs") m.regs in
    let a : Numbered = line_at 1 0 ta in
    let b : Numbered = line_at 2 a.after tb in
    let c : Numbered = line_at 3 b.after tc in
    let d : Numbered = line_at 4 c.after td in
    let e : Numbered = line_at 5 d.after te in
    let tail : List (List ℕ) = map entry_text m.entries ++ codes "end" ∷ [] in
    let t = tail_is m.entries 6 e.after (all_again m.entries h.allowed.each) in
    let heads = head_lines_are m h.allowed named a b c d e refl refl refl refl refl in
    let speak = heads_speak m a b c d e heads in
    let all : List Numbered = a ∷ b ∷ c ∷ d ∷ e ∷ numbered 6 e.after tail in
    let speaks : AllByRecursion Speaks all = (
      speak.0,
      (speak.1.0, (speak.1.1.0, (speak.1.1.1.0, (speak.1.1.1.1.0, t.speak)))),
    ) in
    let cut : all ≡ a ∷ b ∷ c ∷ d ∷ e ∷ (t.insns ++ t.last ∷ []) = ap (λ (ls : List Numbered). a ∷ b ∷ c ∷ d ∷ e ∷ ls)
    t.cut in
    record {
      last = t.last;
      lines = record {
        front = a ∷ b ∷ c ∷ d ∷ e ∷ t.insns;
        cut = cut;
        short = short_lines (machine_lines m) 1 0 h.short;
        heads = a ∷ b ∷ c ∷ d ∷ e ∷ [];
        insns = t.insns;
        said = all_said all speaks ∙ cut;
        head_lines = heads;
        insn_lines = t.are;
        end_line = t.end;
        allowed = h.allowed;
      };
      place = place_five ta tb tc td te tail t.last t.place;
    }

described_by : (m : Machine) (at : Spot) (ls : List Numbered) (n : ℕ) → read_each step ToMachine ls ≡ Ok (Ended m at)
    → described ls n ≡ Ok (m, at)
unfolding described finish
described_by m at ls n e = rw e refl

text_lines : (m : Machine) → AllByRecursion IsPlain (machine_lines m) → lines_behind start (machine_text m) ≡ numbered
    1 0 (machine_lines m)
unfolding machine_text
text_lines m h = lines_again (machine_lines m) 1 0 h

-- each of these lines with its line feed has so many bytes at most
lines_fit : (ls : List (List ℕ)) → AllByRecursion (λ line. length line ≤ 4096) ls
    → length (lines_text ls) ≤ 4097 * length ls
lines_fit [] h = omega arith
lines_fit (l ∷ ls) h =
    let rest = lines_fit ls h.1 in
    let own = h.0 in
    let more = length-append (l ++ 10 ∷ []) (lines_text ls) in
    let feed = length-append l (10 ∷ []) in
    omega arith

-- there are five head lines, one for each entry, and `end`
lines_are : (m : Machine) → length (machine_lines m) ≡ length m.entries + 6
unfolding machine_lines
lines_are m =
    let more = length-append (map entry_text m.entries) (codes "end" ∷ []) in
    let same = length-map m.entries entry_text in
    omega arith

text_fits : (m : Machine) → IsPrintable m → length (machine_text m) ≤ 4194304
unfolding machine_text
text_fits m h =
    let bytes = lines_fit (machine_lines m) h.short in
    let lines = lines_are m in
    let few = h.allowed.entries in
    omega arith

pub printed_again : (m : Machine) → IsPrintable m → machine_in (machine_text m) ≡ Ok (m, end_of_text m)
printed_again m h =
    let named = names_by (m.frame ∷ m.result ∷ (m.args ++ m.regs)) h.allowed.registers in
    let lines = text_lines m (plain_lines m h named) in
    let l = listing m h named in
    let read = ap (read_each step ToMachine) lines ∙ description_again (numbered 1 0 (machine_lines m)) m l.last
    l.lines in
    within_is (machine_text m) _ (text_fits m h)
    ∙ described_by m (behind l.last) (lines_behind start (machine_text m)) (line_behind start (machine_text m)) read
    ∙ ap (λ (at : Spot). Ok (m, at)) l.place
