use Rattle.std.proofs.Common.{◌≡◌, ◌∙◌, sym, ap, subst, refl, List, [], ◌++◌, drop, append-nil, arith}
use Rattle.std.proofs.lemmas.List.{at_drop_all}
use Rattle.po_text.specs.Words.{words_from, words_of, AreWordsFrom}
use Rattle.po_text.specs.declared.fault.Span.{Span}
use Rattle.po_text.proofs.Spans.{behind_word}
use Rattle.po_text.proofs.WordLaws.{are_words}
use Rattle.po_text.proofs.words.split_line.Goals as goal

-- one word more, and the words behind it
pub words-preserved : goal.words-preserved
words-preserved c =
    rw c.in_ok-push_word.ensures (behind_word c.args.line.now c.words.at c.word_end-end.result c.words.words.items
    (words_of c.args.line.now) c.word_end-end.ensures.end c.words.invariant)

-- at the line's end no word is left, and what is found is what stands there
pub returns-clause-words : goal.returns-clause-words
returns-clause-words c =
    let line = c.args.line.now in
    let found = c.words.words.items in
    let none : words_from c.words.at (drop c.words.at line) ≡ [] =
    at_drop_all (words_from c.words.at) line c.words.at (omega arith) in
    let all : found ≡ words_of line =
    sym (append-nil found) ∙ ap (λ (rest : List Span). found ++ rest) (sym none) ∙ c.words.invariant in
    let P : List Span → Type 0 = AreWordsFrom 0 line in
    subst P (sym all) (are_words line line 0 refl)
