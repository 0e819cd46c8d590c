-- The words of an entry's line. Each keyword, sign and relation stands between blanks, and so does a whole term.
use Rattle.std.specs.Prelude.{ℕ, Bool, true, not, List, [], ◌∷◌, take, if◌then◌else◌, Result, Ok}
use Rattle.std.specs.List.{prefix_len}
use Rattle.po_text.specs.Words.{is_blank}
use Rattle.po_lines.specs.declared.fault.LineFault.{LineFault}
use Rattle.po_lines.specs.Leaves.{same}
use Rattle.po_pattern.specs.Rests.{Rest, Read, behind, skip_blanks, wrong}

abbrev pub is_word_byte : ℕ → Bool
is_word_byte b = not (is_blank b)

-- the bytes up to the next blank or the line's end
unfoldable pub word_here : Rest → List ℕ
word_here r = take (prefix_len is_word_byte r.bytes) r.bytes

-- this word stands here
abbrev pub says : List ℕ → Rest → Bool
says text r = same (word_here r) text

-- what stands right behind the word here
unfoldable pub after_word : Rest → Rest
after_word r = behind (prefix_len is_word_byte r.bytes) r

-- what stands behind the word here and the blanks behind it
abbrev pub behind_word : Rest → Rest
behind_word r = skip_blanks (after_word r)

-- this keyword has to stand here; any other word is wrong at its first byte
unfoldable pub keyword : List ℕ → Rest → Result Rest LineFault
keyword text r = if says text r then Ok (behind_word r) else wrong r

-- a blank or the line's end stands here
abbrev pub ends_word : List ℕ → Bool
ends_word [] = true
ends_word (b ∷ bs) = is_blank b

-- what was read has to end here; another byte than a blank is wrong
unfoldable pub ended : {T : Type 0} → Read T → Result (Read T) LineFault
ended x = if ends_word x.rest.bytes then Ok (record { value = x.value; rest = skip_blanks x.rest; seen = x.seen })
    else wrong x.rest
