-- Proved: the readings of documents 01 and 02 (One) hold, as one list under one claim, by computing (readings-hold). Assumes nothing.
use Prim.Native.Nat.{ℕ}
use mathlib.Core.Path.{refl}
use Rattle.text.specs.Bytes.{is, is_ascii, is_digit, is_eol, is_space, ends_word}
use Rattle.text.specs.Runs.{span}
use Rattle.gaps.specs.Gaps.{gap_byte, gap_then, gap_in, gap}
use Rattle.places.specs.Places.{step as scan_step, scan, scan_at, place_at}
use Rattle.places.specs.Reports.{success, refused_at, refused_bare, no_room}
use Rattle.words.specs.Words.{in_word, word, is_ordinary}
use Rattle.folding.specs.Folding.{lower}
use Rattle.keywords.specs.Keywords.{starts, key_data, key_global, key_loop, key_save, key_stop, reserved}
use Rattle.quotes.specs.Quotes.{more, quoted, field_in, field}
use Rattle.numbers.specs.Parts.{cut, cons_got, digits, sign, point, absent, signed_digits, is_empty, exponent, close, bracket, parts, is_number, within, minus}
use Rattle.cuts.specs.Digits.{value_from, value}
use Rattle.numbers.specs.Meaning.{meaning}
use Rattle.kinds.specs.Kinds.{kind_of, shape_of, shape_length, marks_of, opening, body_length, is_content, has_content}
use Rattle.values.specs.Values.{lexed, number_or, word_or, closed, lex_value, lex_as_value}
use Rattle.values.specs.Answers.{why_of, why_not, wanted, meant, value_answer}
use Rattle.grammar.specs.Tokens.{save_size, lex_in, lex, after, tok, emit, step, tokens_from, tokens}
use Rattle.grammar.specs.Machine.{config, rec, loop_end, closes, fails, at_item, loop_ends, at_value, no_more_names, at_name, at_want, at_start, move, follow, run, reason, in_block_only}
use Rattle.sizes.specs.Sizes.{content_size, store_size, area_size}
use Rattle.grammar.specs.Reading.{decided, outline}
use Rattle.text.specs.Limits.{limit}
use Rattle.walking.specs.Writing.{area_of}
use Rattle.desk.specs.Written.{content_of}
use Rattle.reading.specs.Services.{read_room, read_by, read_answer}
use Rattle.refusals.specs.Answers.{refusal}
use Rattle.readings.specs.Readings.{bytes, row_of, seen, asked, reads, means, done-with, decimal, whole, readings, ReadingsHold}

-- one name for all that a reading computes with: to unfold it is to unfold whatever its line names
unfoldable pub opened : ℕ
unfolding is is_ascii is_digit is_eol is_space ends_word span gap_byte gap_then gap_in gap scan_step scan scan_at place_at success refused_at refused_bare no_room in_word word is_ordinary lower starts key_data key_global key_loop key_save key_stop reserved more quoted field_in field cut cons_got digits sign point absent signed_digits is_empty exponent close bracket parts is_number within value_from value minus meaning kind_of shape_of shape_length marks_of opening body_length is_content has_content lexed number_or word_or closed lex_value lex_as_value why_of why_not wanted meant value_answer save_size lex_in lex after tok emit step tokens_from tokens reason in_block_only config rec loop_end closes fails at_item loop_ends at_value no_more_names at_name at_want at_start move follow run content_size store_size area_size limit decided outline content_of area_of refusal read_room read_by read_answer
opened = 0

pub readings-hold : ReadingsHold
unfolding opened bytes row_of seen asked reads means done-with decimal whole readings ReadingsHold
readings-hold = refl
