-- What is read is a machine that a description may tell of.
use Rattle.std.proofs.Common.{◌≡◌, ◌≢◌, ℕ, zero, suc, ◌<◌, ◌≤◌, List, [], ◌∷◌, ◌++◌, Bool, true, false, Ok, refl, ap}
use Rattle.std.proofs.Common.{sym, ◌∙◌, subst, length, length-append, get_or, arith, ◌⊎◌, inl, inr}
use Rattle.std.specs.Prelude.{⊤, All, IsTrue, nat_eq, ◌||◌}
use Rattle.std.specs.List.{AllPairs, list_any}
use Rattle.std.specs.Cmp.Lexicographic.{pointwise}
use Rattle.std.proofs.lemmas.Bool.{false≢true}
use Rattle.std.proofs.lemmas.Cmp.{nat_list_eq_equiv}
use Rattle.std.proofs.lemmas.List.Elements.{All-append, All-cons, All-nil}
use Rattle.std.proofs.lemmas.List.Quantifiers.{all_pairs_push}
use Rattle.po_text.specs.declared.fault.Spot.{Spot}
use Rattle.po_name.specs.Names.{is_name}
use Rattle.po_lines.specs.Lines.{Numbered}
use Rattle.po_lines.specs.NameList.{has}
use Rattle.po_lines.specs.Reading.{read_each}
use Rattle.po_lines.specs.Words.{Placed}
use Rattle.po_lines.proofs.Results.{bind_ok, chosen, ok_is, not_ok}
use Rattle.po_model.specs.declared.machine.Machine.{Machine}
use Rattle.po_model.specs.Entries.{IsEntry}
use Rattle.po_model.specs.Machines.{IsMachine}
use Rattle.po_entry.proofs.Allowed.{entry_allowed}
use Rattle.po_mdread.specs.declared.sofar.Sofar.{Sofar}
use Rattle.po_mdread.specs.declared.sofar.Sofar.TheVariants.{ToMachine, ToFrame, ToResult, ToArgs, ToRegs, ToEntries}
use Rattle.po_mdread.specs.declared.sofar.Sofar.TheVariants.{Ended}
use Rattle.po_mdread.specs.NameLines.{with_new}
use Rattle.po_mdread.specs.Reading.{names_sofar, some_line, has_ended, step}
use Rattle.po_mdread.proofs.Ended.{rest_ended}
use Rattle.po_mdread.proofs.NameLaws.{AreNames, new_are}
use Rattle.po_mdread.proofs.LinesFound.{machine_found, frame_found, result_found, args_found, regs_found, entry_found}
use Rattle.po_mdread.proofs.Steps.{step_found}

abbrev pub Differ : List (List ℕ) → Type 0
Differ names = AllPairs (λ n o. n ≢ o) names

either_false : (a b : Bool) → (a || b) ≡ false → (a ≡ false) × (b ≡ false)
either_false true b e = cc
either_false false b e = (refl, e)

none_passes : (p : List ℕ → Bool) (xs : List (List ℕ)) → list_any p xs ≡ false → (k : ℕ) (d : List ℕ) → k < length xs
    → p (get_or xs k d) ≡ false
none_passes p [] e k d h = absurd (omega (arith, h))
none_passes p (x ∷ xs) e zero d h = (either_false (p x) (list_any p xs) e).0
none_passes p (x ∷ xs) e (suc k) d h = none_passes p xs (either_false (p x) (list_any p xs) e).1 k d (omega (arith, h))

new_differs : (name : List ℕ) (names : List (List ℕ)) → has name names ≡ false → (k : ℕ) (d : List ℕ)
    → k < length names → get_or names k d ≢ name
new_differs name names e k d h same =
    let no : pointwise nat_eq name (get_or names k d) ≡ false = none_passes (pointwise nat_eq name) names e k d h in
    let yes : pointwise nat_eq name name ≡ true = nat_list_eq_equiv.refl name in
    false≢true (sym no ∙ ap (pointwise nat_eq name) same ∙ yes)

pub differ_new : (ws : List Placed) (names all : List (List ℕ)) → with_new names ws ≡ Ok all → Differ names
    → Differ all
unfolding with_new
differ_new [] names all e h = subst Differ (ok_is e) h
differ_new (w ∷ ws) names all e h = elim (chosen (has w.bytes names) _ _ (Ok all) e) [
  | inl p ↦ absurd (not_ok p.1)
  | inr p ↦ differ_new ws (names ++ w.bytes ∷ []) all p.1 (all_pairs_push (λ n o. n ≢ o) names w.bytes h
      (new_differs w.bytes names p.0))
]

named_more : (xs ys : List (List ℕ)) → AreNames xs → AreNames ys → AreNames (xs ++ ys)
named_more [] ys h g = g
named_more (x ∷ xs) ys h g = (h.0, named_more xs ys h.1 g)

-- the numbers of names and entries are within the limits, and the entries are allowed
pub record IsCounted (m : Machine) : Type 0 where
  pub four : length m.args ≡ 4
  pub some : 1 ≤ length m.regs
  pub few : length m.regs ≤ 64
  pub entries : length m.entries ≤ 512
  pub each : All IsEntry m.entries

abbrev Counted : Sofar → Type 0
Counted ToMachine = ⊤
Counted (ToFrame name) = ⊤
Counted (ToResult name frame) = ⊤
Counted (ToArgs name frame result) = ⊤
Counted (ToRegs name frame result args) = length args ≡ 4
Counted (ToEntries m) = IsCounted m
Counted (Ended m at) = IsCounted m

abbrev own_name : Sofar → List (List ℕ)
own_name ToMachine = []
own_name (ToFrame name) = name ∷ []
own_name (ToResult name frame) = name ∷ []
own_name (ToArgs name frame result) = name ∷ []
own_name (ToRegs name frame result args) = name ∷ []
own_name (ToEntries m) = m.name ∷ []
own_name (Ended m at) = m.name ∷ []

pub record IsFine (s : Sofar) : Type 0 where
  pub own : AreNames (own_name s)
  pub named : AreNames (names_sofar s)
  pub differ : Differ (names_sofar s)
  pub counted : Counted s

pub none_fine : IsFine ToMachine
none_fine = record { own = tt; named = tt; differ = λ i j d h k. absurd (omega (arith, h, k)); counted = tt }

one_differs : (name : List ℕ) → Differ (name ∷ [])
one_differs name = all_pairs_push (λ n o. n ≢ o) [] name (λ i j d h k. absurd (omega (arith, h, k)))
    (λ k d h. absurd (omega (arith, h)))

said_fine : (s : Sofar) (l : Numbered) (w : Placed) (ws : List Placed) (t : Sofar) → some_line s l w ws ≡ Ok t
    → IsFine s → IsFine t
unfolding some_line
said_fine ToMachine l w ws t e h =
    let f = machine_found w ws _ t e in
    subst IsFine (sym f.2) (record { own = f.1.read.named; named = tt; differ = h.differ; counted = tt })
said_fine (ToFrame n) l w ws t e h =
    let f = frame_found n w ws _ t e in
    subst IsFine (sym f.2) (record { own = h.own; named = f.1.read.named; differ = one_differs f.0; counted = tt })
said_fine (ToResult n a) l w ws t e h =
    let f = result_found n a w ws _ t e in
    let names = new_are (a ∷ []) (a ∷ []) ws f.2.names (f.0 ∷ []) refl f.2.new f.1.read.words in
    subst IsFine (sym f.3) (record {
      own = h.own;
      named = named_more (a ∷ []) (f.0 ∷ []) h.named f.1.read.named;
      differ = subst Differ names (differ_new ws (a ∷ []) f.2.names f.2.new h.differ);
      counted = tt;
    })
said_fine (ToArgs n a b) l w ws t e h =
    let f = args_found n a b w ws _ t e in
    let names = new_are (a ∷ b ∷ []) (a ∷ b ∷ []) ws f.3.names f.0 refl f.3.new f.1.read.words in
    subst IsFine (sym f.4) (record {
      own = h.own;
      named = named_more (a ∷ b ∷ []) f.0 h.named f.1.read.named;
      differ = subst Differ names (differ_new ws (a ∷ b ∷ []) f.3.names f.3.new h.differ);
      counted = f.2;
    })
said_fine (ToRegs n a b c) l w ws t e h =
    let f = regs_found n a b c w ws _ t e in
    let names = new_are (a ∷ b ∷ c) (a ∷ b ∷ c) ws f.3.names f.0 refl f.3.new f.1.read.words in
    subst IsFine (sym f.4) (record {
      own = h.own;
      named = named_more (a ∷ b ∷ c) f.0 h.named f.1.read.named;
      differ = subst Differ names (differ_new ws (a ∷ b ∷ c) f.3.names f.3.new h.differ);
      counted = record {
        four = h.counted;
        some = f.2.some;
        few = f.2.few;
        entries = omega arith;
        each = All-nil IsEntry;
      };
    })
said_fine (ToEntries m) l w ws t e h = elim (entry_found m l w ws t e) [
  | inl f ↦ (let long = length-append m.entries (f.entry ∷ []) in
      let room = f.room in
      let most = h.counted.entries in
      subst IsFine (sym f.next) (record {
        own = h.own;
        named = h.named;
        differ = h.differ;
        counted = record {
          four = h.counted.four;
          some = h.counted.some;
          few = h.counted.few;
          entries = omega arith;
          each = All-append IsEntry m.entries (f.entry ∷ []) h.counted.each (All-cons IsEntry f.entry []
              (entry_allowed l.bytes f.entry f.read) (All-nil IsEntry));
        };
      }))
  | inr f ↦ subst IsFine (sym f.next) (record { own = h.own; named = h.named; differ = h.differ; counted = h.counted })
]
said_fine (Ended m at) l w ws t e h = subst IsFine (ok_is e) h

step_fine : (s : Sofar) (l : Numbered) (t : Sofar) → step s l ≡ Ok t → has_ended s ≡ false → IsFine s → IsFine t
step_fine s l t e going h = elim (step_found s l t e going) [
  | inl p ↦ subst IsFine (sym p.1) h
  | inr p ↦ said_fine s l p.first p.others t p.told h
]

either : (b : Bool) → (b ≡ true) ⊎ (b ≡ false)
either true = inl refl
either false = inr refl

pub each_fine : (ls : List Numbered) (s t : Sofar) → read_each step s ls ≡ Ok t → IsFine s → IsFine t
unfolding read_each
each_fine [] s t e h = subst IsFine (ok_is e) h
each_fine (l ∷ ls) s t e h = elim (either (has_ended s)) [
  | inl done ↦ subst IsFine (ok_is (sym (rest_ended s (l ∷ ls) done) ∙ e)) h
  | inr going ↦ (let first = bind_ok (step s l) (λ (r : Sofar). read_each step r ls) t e in
      each_fine ls first.0 t first.2 (step_fine s l first.0 first.1 going h))
]

named_all : (xs : List (List ℕ)) → AreNames xs → All (λ n. IsTrue (is_name n)) xs
named_all [] h = λ k d g. absurd (omega (arith, g))
named_all (x ∷ xs) h = All-cons (λ n. IsTrue (is_name n)) x xs h.0 (named_all xs h.1)

pub machine_is : (m : Machine) (at : Spot) → IsFine (Ended m at) → IsMachine m
machine_is m at f =
    record {
      name = f.own.0;
      registers = named_all (names_sofar (Ended m at)) f.named;
      differ = f.differ;
      four = f.counted.four;
      some = f.counted.some;
      few = f.counted.few;
      entries = f.counted.entries;
      each = f.counted.each;
    }
