use Rattle.std.proofs.Common.{◌≡◌, sym, ap, ◌∙◌}
use Rattle.rows_model.specs.declared.changes.Change.TheVariants.{Invite, Block}
use Rattle.sqlite_tables.specs.declared.pairs.Pair.{Pair}
use Rattle.sqlite_tables.specs.declared.pairs.PairState.TheVariants as pair
use Rattle.sqlite_tables.specs.Lists.{tables_of, with_pair}
use Rattle.sqlite_tables.specs.Changes.{paired}
use Rattle.sqlite_keeper.proofs.BondLemmas.{if_ok}
use Rattle.sqlite_keeper.proofs.LoadLemmas.{put_one, put_friends}
use Rattle.sqlite_keeper.proofs.loading.put.Goals as goal

pub returns-in-Pending : goal.returns-in-Pending
returns-in-Pending c lists is order =
    let same : paired c.args.pair.now.a c.args.pair.now.b pair.Pending ≡ c.args.pair.now = ap (paired c.args.pair.now.a c.args.pair.now.b) (sym c.in-Pending.is) in
    if_ok c.make.result
    (λ _ made. put_one (Invite c.args.pair.now.a c.args.pair.now.b) lists c.args.rows.now c.make.new.rows is order c.link_count-links.ensures.fit made
    ∙ ap (λ (p : Pair). tables_of (with_pair p lists)) same) c.make.ensures

pub returns-in-Friend : goal.returns-in-Friend
returns-in-Friend c lists is order =
    let same : paired c.args.pair.now.a c.args.pair.now.b pair.Friend ≡ c.args.pair.now = ap (paired c.args.pair.now.a c.args.pair.now.b) (sym c.in-Friend.is) in
    if_ok c.befriend.result
    (λ _ made. put_friends c.args.pair.now.a c.args.pair.now.b lists c.args.rows.now c.befriend.new.rows is order made.0 made.1
    ∙ ap (λ (p : Pair). tables_of (with_pair p lists)) same) c.befriend.ensures

pub returns-in-Block : goal.returns-in-Block
returns-in-Block c lists is order =
    let same : paired c.args.pair.now.a c.args.pair.now.b pair.Block ≡ c.args.pair.now = ap (paired c.args.pair.now.a c.args.pair.now.b) (sym c.in-Block.is) in
    if_ok c.make-in-Block.result
    (λ _ made. put_one (Block c.args.pair.now.a c.args.pair.now.b) lists c.args.rows.now c.make-in-Block.new.rows is order c.link_count-links.ensures.fit made
    ∙ ap (λ (p : Pair). tables_of (with_pair p lists)) same) c.make-in-Block.ensures
