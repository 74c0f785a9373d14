-- The blocks from an offset on. Assumes nothing.
use Rattle.std.specs.Prelude.{ℕ, List, []}
use Rattle.std.proofs.Math.Option.{none}
use Rattle.rules.specs.declared.Reading.{Reading}
use Rattle.grammar.specs.Tokens.{before, tokens_at}
use Rattle.grammar.specs.Machine.{Answer, run, config, start}

-- what it answers where `data_` is expected
unfoldable pub block_at : Reading → List ℕ → ℕ → Answer
block_at r s o = run r (tokens_at r before s o) (config start none [] [])
