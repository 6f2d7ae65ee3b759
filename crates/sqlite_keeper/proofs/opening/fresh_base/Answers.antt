use Rattle.std.proofs.Common.{◌≡◌, ◌<◌, ◌∙◌, true, sym, subst, List, AllPairs, arith}
use Rattle.rows_model.specs.declared.rows.Member.{Member}
use Rattle.sqlite.specs.Held.{state}
use Rattle.sqlite_tables.specs.Lists.{AreLists}
use Rattle.sqlite_keeper.specs.Openings.{members_alone}
use Rattle.sqlite_keeper.proofs.BaseLemmas.{all_clean}
use Rattle.sqlite_keeper.proofs.OpeningLemmas.{start_counted, start_held}
use Rattle.sqlite_keeper.proofs.opening.fresh_base.Goals as goal

pub make_rows-requires : goal.make_rows-requires
make_rows-requires g c =
    subst (λ (ms : List Member). AllPairs (λ member later. member.id < later.id) ms) (sym c.members.ensures.items) c.members.ensures.fit.members_ascend

pub new-requires : goal.new-requires
new-requires g c = λ never.
    let new = c.make_rows.new.conn in
    let is : c.is_blank.result ≡ true = grind arith in
    let blank = sym c.schema.ensures.value ∙ c.is_blank.ensures is in
    let are = c.in_ok-make_rows.ensures.made (all_clean g.S.Store never new) blank in
    let here = subst (λ (ms : List Member). AreLists (state g.S.Store new).now (members_alone ms)) c.members.ensures.items are in
    start_counted (state g.S.Store new).now c.args.rows.now c.args.members c.tally_of-tally.result c.requires c.members.ensures.fit c.tally_of-tally.ensures.tallied here

pub returns : goal.returns
returns g c = record {
  told = λ never.
      let new = c.make_rows.new.conn in
      let is : c.is_blank.result ≡ true = grind arith in
      let blank = sym c.schema.ensures.value ∙ c.is_blank.ensures is in
      let are = c.in_ok-make_rows.ensures.made (all_clean g.S.Store never new) blank in
      let here = subst (λ (ms : List Member). AreLists (state g.S.Store new).now (members_alone ms)) c.members.ensures.items are in
      c.new.ensures ∙ start_held (state g.S.Store new).now c.args.rows.now c.args.members c.requires here;
}
