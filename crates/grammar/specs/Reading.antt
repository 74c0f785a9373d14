-- Reading a text: limit 1, then bytes of 128 or more, in the strict reading long lines and control bytes, then the tokens by the machine. Assumes nothing.
use Rattle.std.specs.Prelude.{ℕ, Bool, cond, List, [], ltb, length, Result, Ok, Err}
use Rattle.std.proofs.Math.Option.{Option, none, some}
use Rattle.rules.specs.declared.Reading.{Reading}
use Rattle.rules.specs.declared.Reading.TheVariants.{First, Strict}
use Rattle.text.specs.Bytes.{is_ascii}
use Rattle.text.specs.Runs.{span}
use Rattle.text.specs.Limits.{limit}
use Rattle.lines.specs.declared.Flaw.{Flaw}
use Rattle.lines.specs.declared.Flaw.TheVariants.{LongLine, Control}
use Rattle.lines.specs.Lines.{screened}
use Rattle.grammar.specs.Tokens.{tokens}
use Rattle.grammar.specs.Machine.{Answer, refused, done, run, config, start}

-- what the tokens say
unfoldable pub decided : Reading → List ℕ → Answer
decided r s = run r (tokens r s) (config start none [] [])

-- a line that is too long is 16 at its first byte too many, a control byte 18; else a
unfoldable pub screens : Result (Unit {0}) Flaw → Answer → Answer
screens (Ok u) a = a
screens (Err (LongLine o)) a = refused 16 o 0
screens (Err (Control o)) a = refused 18 o 0

-- the strict reading looks for these before it reads tokens
abbrev pub checked : Reading → List ℕ → Answer → Answer
checked First s a = a
checked Strict s a = screens (screened s) a

-- 1, 2, then 16 and 18, then what the tokens say
unfoldable pub outline : Reading → List ℕ → Answer
outline r s =
    let a = checked r s (decided r s) in
    cond (ltb limit (length s)) (refused 1 0 0)
    (cond (ltb (span is_ascii s) (length s)) (refused 2 (span is_ascii s) 0) a)
