use Rattle.std.proofs.Common.{◌≡◌, ℕ, List, ◌∷◌, ◌++◌, Option, Some, None, decimal, option_map, sym, ap, ◌∙◌}
use Rattle.rows_model.specs.declared.rows.Member.{Member}
use Rattle.rows_model.specs.Rows.{member_of}
use Rattle.rows_model.specs.Query.{profile_text}
use Rattle.sqlite_tables.specs.Lists.{tables_of, name_in}
use Rattle.sqlite_keeper.proofs.AnswerLemmas.{friends_counted, invited_counted, smaller_first}
use Rattle.sqlite_keeper.proofs.LeavesLemmas.{clean_before, same_lists}
use Rattle.sqlite_keeper.proofs.answers.profile.Goals as goal

-- the profile of a member that has a name
named : (found : Option Member) (name : List ℕ) (friends pending : ℕ) → option_map (λ (m : Member). m.name) found ≡ Some name
    → name ++ 32 ∷ decimal friends ++ 32 ∷ decimal pending ≡ profile_text found friends pending
named (Some member) name friends pending e = ap (λ (text : List ℕ). text ++ 32 ∷ decimal friends ++ 32 ∷ decimal pending) (let same : name ≡ member.name = cc in same)
named None name friends pending e = absurd (cc)

pub returns-clause-told : goal.returns-clause-told
returns-clause-told g c clean lists are fit =
    let early = clean_before g.S.Store c.name_of.new.tx.conn.now c.pairs_around.new.tx.conn.now c.pairs_around.ensures.leaves clean in
    let here = same_lists g.S.Store c.args.tx.now.conn.now c.name_of.new.tx.conn.now (λ k l r. c.in_ok-name.ensures.same k l r) early lists are in
    let found : name_in c.args.id lists ≡ Some c.in-Some.name = sym (c.in_ok-name.ensures.found early lists are) ∙ c.in-Some.is in
    let from = c.in_ok-around.ensures.from clean lists here in
    let to = c.in_ok-around.ensures.to clean lists here in
    let smaller = smaller_first lists.pairs (λ k d l. (fit.links_join k d l).smaller_first) in
    let friends = friends_counted c.args.id lists.pairs are.pairs_ascend smaller in
    let pending = invited_counted c.args.id lists.pairs in
    let text = rw (from, to, ← friends, ← pending) at c.in_ok-profile_text.ensures in
    text ∙ named (member_of c.args.id (tables_of lists)) c.in-Some.name _ _ found
