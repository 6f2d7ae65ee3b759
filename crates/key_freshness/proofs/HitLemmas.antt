-- A hit on a held and right entry is fresh, and what it lacks still stands quarantined.
use Rattle.std.proofs.Common.{lt_of_not-le, ⊎_elim}
use Rattle.key_freshness.specs.Laws.{HitIsFresh, LackingStands}
use Rattle.key_freshness.proofs.MarkLemmas.{released-ended}

pub hit_is_fresh : HitIsFresh
hit_is_fresh key opening known past value stamp held right = record {
  known = held.within;
  right = right;
  current = λ place commit at touched released.
      let ended = released-ended key commit.sid past released in
      lt_of_not-le (λ from. held.pending place commit ended.token at from touched ended.mark);
}

pub lacking_stands : LackingStands
lacking_stands key marks known start quars found stamp ruled tied held place commit at from touched =
    let granted = ruled.covered place commit at touched in
    ⊎_elim
    (λ stands. (granted.token, stands))
    (λ ended. absurd (held.pending place commit granted.token at from touched ended))
    (tied.granted commit.sid.number granted.token granted.mark)
