use Rattle.std.proofs.Common.{◌≡◌, ℕ, ◌+◌, ◌<◌, ◌∙◌, sym, ap, List, length, min, arith, refl}
use Rattle.std.proofs.lemmas.Bool.Decides.{nat_tests}
use Rattle.std.specs.List.{position_or_len}
use Rattle.std.proofs.lemmas.List.{take_rest}
use Rattle.po_lines.specs.Lines.{Ahead, Numbered, is_feed}
use Rattle.po_lines.proofs.LineCuts.{ended, feed_is, first_line_is}
use Rattle.po_lines.proofs.lines.Lines.next_line.Goals as goal

-- no byte, no line
pub returns-then-is_empty : goal.returns-then-is_empty
returns-then-is_empty c =
    let rest : List ℕ = c.self.inside.rest.now in
    let none : length rest ≡ 0 = grind (arith, nat_tests, c.if-is_empty.true, c.is_empty.ensures) in
    (sym (ap (λ (a : Ahead). a.lines) c.self.view_is) ∙ ended c.self.inside.line c.self.inside.offset rest none, refl)

-- the first line is taken
pub returns : goal.returns
returns c =
    let rest : List ℕ = c.self.inside.rest.now in
    let some : 0 < length rest = grind (arith, nat_tests, c.if-is_empty.false, c.is_empty.ensures) in
    let feed : c.unwrap_or-length.result ≡ min (position_or_len is_feed rest) (length rest) =
    c.unwrap_or-length.ensures ∙ rw c.feed_at.ensures (feed_is rest) in
    let cut = first_line_is c.self.inside.line c.self.inside.offset rest c.unwrap_or-length.result feed some in (
      sym c.self.view_is
          ∙ rw (
            c.first_line-bytes.ensures,
            c.min-taken.ensures,
            take_rest rest (min (length rest) (c.unwrap_or-length.result + 1)),
          ) (ap (λ (ls : List Numbered). record { line = c.self.inside.line; lines = ls }) cut),
      refl,
    )
