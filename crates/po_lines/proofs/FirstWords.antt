-- The first words of a line, one behind the other.
use Rattle.std.proofs.Common.{◌≡◌, ℕ, ◌+◌, List, [], ◌++◌, refl, ap, sym, ◌∙◌, map, drop, append_assoc}
use Rattle.std.proofs.lemmas.List.{map-append}
use Rattle.po_text.specs.Words.{words_from}
use Rattle.po_text.specs.WordEnds.{word_between, before_blank}
use Rattle.po_text.specs.declared.fault.Span.{Span}
use Rattle.po_text.proofs.Spans.{behind_word}
use Rattle.po_lines.specs.Words.{Placed, word_at}

-- the words so far and those from here on, one word later
pub next_cut : (line : List ℕ) (at end : ℕ) (so_far all : List Placed) → end ≡ at + before_blank (drop at line)
    → so_far ++ map (word_at line) (words_from at (drop at line)) ≡ all
    → (so_far ++ map (word_at line) (word_between at end))
    ++ map (word_at line) (words_from (end + 1) (drop (end + 1) line)) ≡ all
next_cut line at end so_far all is e =
    let f : Span → Placed = word_at line in
    let rest : List Span = words_from (end + 1) (drop (end + 1) line) in
    append_assoc so_far (map f (word_between at end)) (map f rest)
    ∙ ap (λ (ws : List Placed). so_far ++ ws)
    (sym (map-append f (word_between at end) rest)
    ∙ ap (map f) (behind_word line at end [] (words_from at (drop at line)) is refl))
    ∙ e
