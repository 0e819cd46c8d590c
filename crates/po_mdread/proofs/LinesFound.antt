-- What a line is that was read.
use Rattle.std.proofs.Common.{◌≡◌, ◌≢◌, ℕ, List, [], ◌∷◌, Bool, true, false, Ok, refl, ap, sym, ◌∙◌, length, codes}
use Rattle.std.proofs.Common.{◌⊎◌, inl, inr}
use Rattle.std.specs.Prelude.{⊤, nat_eq, ◌==◌}
use Rattle.std.proofs.lemmas.Bool.{eqb-true, false≢true}
use Rattle.po_lines.specs.Faults.{◌>>=◌}
use Rattle.po_lines.specs.Forms.{no_more, name_alone}
use Rattle.po_lines.specs.Leaves.{keyword_in, same}
use Rattle.po_lines.specs.Lines.{Numbered}
use Rattle.po_lines.specs.Words.{Placed}
use Rattle.po_lines.proofs.Results.{bind_ok, chosen, ok_is, not_ok}
use Rattle.po_model.specs.declared.machine.Entry.{Entry}
use Rattle.po_model.specs.declared.machine.Machine.{Machine}
use Rattle.po_entry.specs.Reading.{entry_in}
use Rattle.po_mdread.specs.declared.sofar.Sofar.{Sofar}
use Rattle.po_mdread.specs.declared.sofar.Sofar.TheVariants.{ToFrame, ToResult, ToArgs, ToRegs, ToEntries, Ended}
use Rattle.po_mdread.specs.NameLines.{four_names, register_names, with_new}
use Rattle.po_mdread.specs.Reading as reading
use Rattle.po_mdread.specs.Reading.{with_entry, behind}
use Rattle.po_mdread.proofs.NameLaws.{AreRead, AreRegisters, alone_found, four_found, registers_found, no_more_found}

pub same_found : (xs ys : List ℕ) → same xs ys ≡ true → xs ≡ ys
same_found [] [] e = refl
same_found [] (y ∷ ys) e = absurd (false≢true e)
same_found (x ∷ xs) [] e = absurd (false≢true e)
same_found (x ∷ xs) (y ∷ ys) e = same_by (nat_eq x y) x xs y ys refl (same_found xs ys) e
  where
    same_by : (b : Bool) (x : ℕ) (xs : List ℕ) (y : ℕ) (ys : List ℕ) → nat_eq x y ≡ b → (same xs ys ≡ true → xs ≡ ys)
        → same (x ∷ xs) (y ∷ ys) ≡ true → x ∷ xs ≡ y ∷ ys
    same_by true x xs y ys h more e = let tail : same xs ys ≡ true = rw h at e in let first : x ≡ y =
        eqb-true x y h in let rest : xs ≡ ys = more tail in cc
    same_by false x xs y ys h more e = let none = rw h at e in absurd (false≢true none)

keyword_found : (text : List ℕ) (w : Placed) (t : ⊤) → keyword_in text w ≡ Ok t → w.bytes ≡ text
unfolding keyword_in
keyword_found text w t e = elim (chosen (same w.bytes text) _ _ (Ok t) e) [
  | inl p ↦ same_found w.bytes text p.0
  | inr p ↦ absurd (not_ok p.1)
]

-- a head line: its word, its names, and what it makes of the names so far
pub record IsHead (text : List ℕ) (w : Placed) (ws : List Placed) (names : List (List ℕ)) : Type 0 where
  pub first : w.bytes ≡ text
  pub read : AreRead ws names

pub record IsNew (before : List (List ℕ)) (ws : List Placed) : Type 0 where
  pub names : List (List ℕ)
  pub new : with_new before ws ≡ Ok names

pub machine_found : (w : Placed) (ws : List Placed) (end : ℕ) (t : Sofar) → reading.machine_line w ws end ≡ Ok t
    → (name : List ℕ) × IsHead (codes "machine") w ws (name ∷ []) × (t ≡ ToFrame name)
unfolding reading.machine_line
machine_found w ws end t e =
    let first = bind_ok (keyword_in (codes "machine") w) (λ (u : ⊤). name_alone ws end >>= λ (n : List ℕ).
    Ok (ToFrame n)) t e in
    let name = bind_ok (name_alone ws end) (λ (n : List ℕ). Ok (ToFrame n)) t first.2 in (
      name.0,
      record {
        first = keyword_found (codes "machine") w first.0 first.1;
        read = alone_found ws end name.0
            name.1;
      },
      sym (ok_is name.2),
    )

pub frame_found : (old : List ℕ) (w : Placed) (ws : List Placed) (end : ℕ) (t : Sofar) → reading.frame_line old w ws
    end ≡ Ok t
    → (name : List ℕ) × IsHead (codes "frame") w ws (name ∷ []) × (t ≡ ToResult old name)
unfolding reading.frame_line
frame_found old w ws end t e =
    let first = bind_ok (keyword_in (codes "frame") w) (λ (u : ⊤). name_alone ws end >>= λ (n : List ℕ).
    Ok (ToResult old n)) t e in
    let name = bind_ok (name_alone ws end) (λ (n : List ℕ). Ok (ToResult old n)) t first.2 in (
      name.0,
      record {
        first = keyword_found (codes "frame") w first.0 first.1;
        read = alone_found ws end name.0 name.1;
      },
      sym (ok_is name.2),
    )

pub result_found : (old frame : List ℕ) (w : Placed) (ws : List Placed) (end : ℕ) (t : Sofar) → reading.result_line
    old frame w ws end ≡ Ok t
    → (name : List ℕ) × IsHead (codes "result") w ws (name ∷ []) × IsNew (frame ∷ []) ws × (t ≡ ToArgs old frame name)
unfolding reading.result_line
result_found old frame w ws end t e =
    let first = bind_ok (keyword_in (codes "result") w) (λ (u : ⊤). name_alone ws end >>= λ (n : List ℕ). with_new
    (frame ∷ []) ws >>= λ (ns : List (List ℕ)). Ok (ToArgs old frame n)) t e in
    let name = bind_ok (name_alone ws end) (λ (n : List ℕ). with_new (frame ∷ []) ws >>= λ (ns : List (List ℕ)).
    Ok (ToArgs old frame n)) t first.2 in
    let new = bind_ok (with_new (frame ∷ []) ws) (λ (ns : List (List ℕ)). Ok (ToArgs old frame name.0)) t name.2 in (
      name.0,
      record {
        first = keyword_found (codes "result") w first.0 first.1;
        read = alone_found ws end name.0
            name.1;
      },
      record { names = new.0; new = new.1 },
      sym (ok_is new.2),
    )

pub args_found : (old frame result : List ℕ) (w : Placed) (ws : List Placed) (end : ℕ) (t : Sofar)
    → reading.args_line old frame result w ws end ≡ Ok t
    → (args : List (List ℕ)) × IsHead (codes "args") w ws args × (length args ≡ 4) × IsNew (frame ∷ result ∷ []) ws
    × (t ≡ ToRegs old frame result args)
unfolding reading.args_line
args_found old frame result w ws end t e =
    let first = bind_ok (keyword_in (codes "args") w) (λ (u : ⊤). four_names ws end >>= λ (a : List (List ℕ)).
    with_new (frame ∷ result ∷ []) ws >>= λ (ns : List (List ℕ)). Ok (ToRegs old frame result a)) t e in
    let args = bind_ok (four_names ws end) (λ (a : List (List ℕ)). with_new (frame ∷ result ∷ []) ws >>=
    λ (ns : List (List ℕ)). Ok (ToRegs old frame result a)) t first.2 in
    let new = bind_ok (with_new (frame ∷ result ∷ []) ws)
    (λ (ns : List (List ℕ)). Ok (ToRegs old frame result args.0)) t args.2 in
    let four = four_found ws end args.0 args.1 in (
      args.0,
      record { first = keyword_found (codes "args") w first.0 first.1; read = four.read },
      four.four,
      record { names = new.0; new = new.1 },
      sym (ok_is new.2),
    )

-- a machine without entries
abbrev pub head_of : List ℕ → List ℕ → List ℕ → List (List ℕ) → List (List ℕ) → Machine
head_of name frame result args regs = record {
  name = name;
  frame = frame;
  result = result;
  args = args;
  regs = regs;
  entries = [];
}

pub regs_found : (old frame result : List ℕ) (args : List (List ℕ)) (w : Placed) (ws : List Placed) (end : ℕ)
    (t : Sofar) → reading.regs_line old frame result args w ws end ≡ Ok t
    → (regs : List (List ℕ)) × IsHead (codes "regs") w ws regs × AreRegisters ws regs × IsNew (frame ∷ result ∷ args)
    ws × (t ≡ ToEntries (head_of old frame result args regs))
unfolding reading.regs_line
regs_found old frame result args w ws end t e =
    let first = bind_ok (keyword_in (codes "regs") w) (λ (u : ⊤). register_names ws end >>= λ (rs : List (List ℕ)).
    with_new (frame ∷ result ∷ args) ws >>= λ (ns : List (List ℕ)).
    Ok (ToEntries (head_of old frame result args rs))) t e in
    let regs = bind_ok (register_names ws end) (λ (rs : List (List ℕ)). with_new (frame ∷ result ∷ args) ws >>=
    λ (ns : List (List ℕ)). Ok (ToEntries (head_of old frame result args rs))) t first.2 in
    let new = bind_ok (with_new (frame ∷ result ∷ args) ws)
    (λ (ns : List (List ℕ)). Ok (ToEntries (head_of old frame result args regs.0))) t regs.2 in
    let all = registers_found ws end regs.0 regs.1 in (
      regs.0,
      record { first = keyword_found (codes "regs") w first.0 first.1; read = all.read },
      all,
      record { names = new.0; new = new.1 },
      sym (ok_is new.2),
    )

-- an `insn` line
pub record IsInsn (m : Machine) (l : Numbered) (w : Placed) (t : Sofar) : Type 0 where
  pub first : w.bytes ≡ codes "insn"
  pub entry : Entry
  pub read : entry_in l.bytes ≡ Ok entry
  pub room : length m.entries ≢ 512
  pub next : t ≡ ToEntries (with_entry m entry)

-- the line `end`
pub record IsEnd (m : Machine) (l : Numbered) (w : Placed) (ws : List Placed) (t : Sofar) : Type 0 where
  pub first : w.bytes ≡ codes "end"
  pub alone : ws ≡ []
  pub next : t ≡ Ended m (behind l)

full : (n : ℕ) → (n == 512) ≡ false → n ≢ 512
full n h e = absurd (false≢true (sym h ∙ ap (λ (k : ℕ). k == 512) e))

insn_found : (m : Machine) (l : Numbered) (w : Placed) (t : Sofar) → w.bytes ≡ codes "insn" → reading.insn_line m l
    ≡ Ok t → IsInsn m l w t
unfolding reading.insn_line
insn_found m l w t h e = elim (chosen (length m.entries == 512) _ _ (Ok t) e) [
  | inl p ↦ absurd (not_ok p.1)
  | inr p ↦ (let entry = bind_ok (entry_in l.bytes) (λ (x : Entry). Ok (ToEntries (with_entry m x))) t p.1 in
      record {
        first = h;
        entry = entry.0;
        read = entry.1;
        room = full (length m.entries) p.0;
        next = sym (ok_is entry.2);
      })
]

end_found : (m : Machine) (l : Numbered) (w : Placed) (ws : List Placed) (t : Sofar) → w.bytes ≡ codes "end"
    → reading.end_line m l ws ≡ Ok t → IsEnd m l w ws t
unfolding reading.end_line
end_found m l w ws t h e =
    let none = bind_ok (no_more ws) (λ (u : ⊤). Ok (Ended m (behind l))) t e in
    record { first = h; alone = no_more_found ws none.0 none.1; next = sym (ok_is none.2) }

pub entry_found : (m : Machine) (l : Numbered) (w : Placed) (ws : List Placed) (t : Sofar) → reading.entry_line m l w
    ws ≡ Ok t → IsInsn m l w t ⊎ IsEnd m l w ws t
unfolding reading.entry_line
entry_found m l w ws t e = elim (chosen (same w.bytes (codes "insn")) _ _ (Ok t) e) [
  | inl p ↦ inl (insn_found m l w t (same_found w.bytes (codes "insn") p.0) p.1)
  | inr p ↦ elim (chosen (same w.bytes (codes "end")) _ _ (Ok t) p.1) [
    | inl q ↦ inr (end_found m l w ws t (same_found w.bytes (codes "end") q.0) q.1)
    | inr q ↦ absurd (not_ok q.1)
  ]
]
