use Rattle.po_lines.proofs.SpanBounds.{within_deref}
use Rattle.po_lines.proofs.split.line_words.Goals as goal

pub word_at-requires-clause-order : goal.word_at-requires-clause-order
word_at-requires-clause-order c =
    (within_deref c.args.line.now c.in_ok-spans.spans.items c.deref-span-items.result.now c.loop-span.span-index _
    c.deref-span-items.ensures.value c.in_ok-spans.ensures.words c.loop-span-test.true).order

pub word_at-requires-clause-within : goal.word_at-requires-clause-within
word_at-requires-clause-within c =
    (within_deref c.args.line.now c.in_ok-spans.spans.items c.deref-span-items.result.now c.loop-span.span-index _
    c.deref-span-items.ensures.value c.in_ok-spans.ensures.words c.loop-span-test.true).within
