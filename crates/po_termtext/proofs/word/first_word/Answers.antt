use Rattle.std.proofs.Common.{◌∙◌, ap, take, drop}
use Rattle.po_termtext.specs.Reading.{in_word}
use Rattle.po_termtext.proofs.Words.{take_passed}
use Rattle.po_termtext.proofs.word.first_word.Goals as goal

pub returns-clause-word : goal.returns-clause-word
returns-clause-word c = c.split_at.ensures.front ∙ ap (λ n. take n c.args.text.now) c.word_length.ensures.exact
    ∙ take_passed in_word c.args.text.now

pub returns-clause-rest : goal.returns-clause-rest
returns-clause-rest c = c.split_at.ensures.back ∙ ap (λ n. drop n c.args.text.now) c.word_length.ensures.exact
