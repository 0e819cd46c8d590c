use Rattle.std.proofs.Common.{◌≡◌, ◌++◌, ◌∙◌, ap, length, sym}
use Rattle.std.specs.List.{flat_map}
use Rattle.std.proofs.lemmas.List.{length-map}
use Rattle.po_settle.specs.Texts.{texts_of}
use Rattle.po_settle.specs.Lines.{count_line, line_of}
use Rattle.po_settle.proofs.lines.rules_text.Goals as goal

pub returns : goal.returns
returns c =
    let texts = c.args.texts.now in
    let many : length (texts_of texts) ≡ length texts = length-map texts (λ t. t.items) in
    let counted : c.push_count.new.out.items ≡ count_line (length (texts_of texts)) = c.in_ok-push_count.ensures
    ∙ ap (λ o. o ++ count_line (length texts)) c.new-out.ensures.items ∙ ap count_line (sym many) in
    c.in_ok-push_lines.ensures ∙ ap (λ o. o ++ flat_map line_of (texts_of texts)) counted
