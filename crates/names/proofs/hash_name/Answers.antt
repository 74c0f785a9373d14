-- `names::hash_name`: byte by byte. Assumes nothing.
use Rattle.std.proofs.Common.{◌≡◌, ◌∙◌, rules, ℕ}
use Rattle.std.specs.List.{fold}
use Rattle.folding.specs.Folding.{lower}
use Rattle.names.specs.Numbers.{mix, hash_of}
use Rattle.names.proofs.Numbers.{mix-fold}
use Rattle.names.proofs.hash_name.Goals as goal

pub returns : goal.returns
unfolding hash_of
returns c =
    let all : c.fold-h.result ≡ fold (λ (n b : ℕ). mix n (lower b)) c.args.x.scope c.args.x.bytes.now = search rules in
    c.mix-2.ensures ∙ rw (c.mix.ensures, all, mix-fold)
