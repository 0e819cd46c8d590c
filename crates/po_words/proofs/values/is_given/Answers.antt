use Rattle.std.proofs.Common.{◌∙◌, ap}
use Rattle.clap.specs.Words.{found_of}
use Rattle.po_words.specs.Values.{is_from_words}
use Rattle.po_words.proofs.Numbers.{given-by_entry}
use Rattle.po_words.proofs.values.is_given.Goals as goal

pub returns : goal.returns
returns c = c.is_from_words.ensures ∙ ap is_from_words c.value_source.ensures
    ∙ given-by_entry (found_of c.args.matches.now) c.args.name.now
