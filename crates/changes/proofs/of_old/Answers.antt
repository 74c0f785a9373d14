-- `changes::of_old`: without a partner, or with one. Assumes nothing.
use Rattle.changes.proofs.Orderly.{orderly-at}
use Rattle.changes.proofs.Changes.{old-missing, old-same, old-is, partner-lies}
use Rattle.changes.proofs.of_old.Goals as goal

pub returns-in_default : goal.returns-in_default
returns-in_default c = old-missing _ _ _ _ c.args.x _ c.requires.2 c.in_default.is

pub case_of-requires : goal.case_of-requires
case_of-requires c =
    let pre = c.requires in
    let args = c.args in
    (orderly-at _ _ _ args.x.at args.x.number pre.0.here pre.1.here, orderly-at _ _ _ _ _ pre.0.there (partner-lies _ _ _ _ args.x _ pre.2 _ c.in-Some.is).here)

pub returns-in-Same : goal.returns-in-Same
returns-in-Same c =
    let pre = c.requires in
    old-same _ _ _ _ c.args.x _ pre.2 _ c.in-Some.is _ c.in-Same.is pre.1 c.case_of.ensures

pub returns-in_default-case_of : goal.returns-in_default-case_of
returns-in_default-case_of c =
    let pre = c.requires in
    old-is _ _ _ _ c.args.x _ pre.2 _ c.in-Some.is _ c.in_default-case_of.not-Same pre.1 c.case_of.ensures
