-- Proved, by computing: the readings differ on each text of specs/Needed, as it says (cases-hold), and its example is plain
-- (example-is-plain). Assumes nothing.
use Prim.Native.Nat.{ℕ}
use mathlib.Core.Path.{refl}
use Rattle.text.specs.Bytes.{is, is_ascii, is_digit, is_eol, is_space, ends_word}
use Rattle.text.specs.Runs.{span}
use Rattle.text.specs.Limits.{limit}
use Rattle.text.specs.Parts.{part}
use Rattle.words.specs.Words.{in_word, word, is_ordinary}
use Rattle.folding.specs.Folding.{lower}
use Rattle.keywords.specs.Keywords.{starts, key_data, key_global, key_loop, key_save, key_stop, is_word, reserved}
use Rattle.quotes.specs.Quotes.{more, quoted, ends_here, strict_quoted, field_in, field}
use Rattle.numbers.specs.Parts.{cut, cons_got, digits, sign, point, absent, signed_digits, is_empty, exponent, close, bracket, parts, is_number, written, is_numeric, within}
use Rattle.gaps.specs.Gaps.{gap_byte, gap_then, gap_in, gap}
use Rattle.lines.specs.Lines.{is_control, column, is_long, screen_from, screened}
use Rattle.values.specs.Values.{lexed, number_or, word_or, closed, alone_or, lex_value}
use Rattle.values.specs.Answers.{why_of, why_not}
use Rattle.grammar.specs.Tokens.{save_size, lex_in, lex, after, tok, emit, step, tokens_from, tokens}
use Rattle.grammar.specs.Machine.{config, rec, loop_end, reason, in_block_only, closes, is_joined, fails, at_item, last_at, loop_ends, at_value, no_more_names, at_name, at_want, at_start, move, follow, run}
use Rattle.grammar.specs.Reading.{decided, screens, outline}
use Rattle.alike.specs.Needed.{differ, row, valued, cases, answers_to, CasesHold, example, example_rows, ExampleIsPlain}
use Rattle.alike.specs.Plain.{is_mark, no_mark, empty_exponent, empty_bracket, starts_single, starts_keyword, is_plain_word, plain_values, blocks, OneBlock}

-- one name for all that an outline computes with
unfoldable pub opened : ℕ
unfolding is is_ascii is_digit is_eol is_space ends_word span limit in_word word is_ordinary lower starts key_data key_global key_loop key_save key_stop is_word reserved more quoted ends_here strict_quoted field_in field cut cons_got digits sign point absent signed_digits is_empty exponent close bracket parts is_number written is_numeric within gap_byte gap_then gap_in gap is_control column is_long screen_from screened lexed number_or word_or closed alone_or lex_value why_of why_not save_size lex_in lex after tok emit step tokens_from tokens config rec loop_end reason in_block_only closes is_joined fails at_item last_at loop_ends at_value no_more_names at_name at_want at_start move follow run decided screens outline
opened = 0

pub cases-hold : CasesHold
unfolding opened differ row valued cases answers_to CasesHold
cases-hold = refl

pub example-is-plain : ExampleIsPlain
unfolding opened row example example_rows ExampleIsPlain is_mark no_mark empty_exponent empty_bracket starts_single starts_keyword is_plain_word plain_values blocks OneBlock part
example-is-plain = record { accepted = refl; one_block = refl; no-mark = refl; bare = refl }
