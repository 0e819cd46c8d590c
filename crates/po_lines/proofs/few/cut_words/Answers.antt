use Rattle.std.proofs.Common.{map, take, rules, refl}
use Rattle.po_lines.specs.Words as words
use Rattle.po_lines.specs.Words.{words_in}
use Rattle.po_lines.proofs.FirstWords.{next_cut}
use Rattle.po_lines.proofs.few.cut_words.Goals as goal

pub words-init : goal.words-init
unfolding words_in
words-init c = record { within = search rules; cut = refl }

-- one word more
pub words-preserved : goal.words-preserved
words-preserved c = record {
  within = search rules;
  cut = rw c.keep_word-count.ensures.words
      (next_cut c.args.line.now c.words.at c.word_end-end.result (map words.seen (take c.words.count c.words.room))
      (words.words_in c.args.line.now) c.word_end-end.ensures.end c.words.invariant.cut);
}
