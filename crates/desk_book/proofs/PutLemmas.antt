-- When a release with a new value is borne out.
use Rattle.std.proofs.Common.{ℕ, ◌≡◌, Bool, List, Some, sym, subst, ◌∙◌}
use Rattle.std.specs.Prelude.{IsTrue, IfOk, ◌↔◌, Result, IsSomeAnd}
use Rattle.rows_model.specs.declared.keys.Sid.{Sid}
use Rattle.rows_model.specs.declared.refusals.Memory.{Memory}
use Rattle.rows_model.specs.declared.changes.Change.{Change}
use Rattle.key_shard.specs.Permit.{Permit}
use Rattle.session_client.specs.declared.replies.Wanted.TheVariants as wanted
use Rattle.desk_book.specs.declared.facts.Committed.{Committed}
use Rattle.desk_book.specs.Books.{Book}
use Rattle.desk_book.specs.Borne.{IsBorne, IsOwn, IsDone, Refreshes}
use Rattle.desk_book.proofs.ListLemmas.{ok_gives}

-- what a session did once it has committed so
pub done-is : (book : Book) (done : Committed) (number : ℕ) (P : List Change → Type 0) → book.commit ≡ Some done → done.number ≡ number
    → P done.txn → IsDone book number P
done-is book done number P e same p = subst (λ c. IsSomeAnd c (λ (d : Committed). (d.number ≡ number) × P d.txn)) (sym e) (same, p)

pub done-was : (book : Book) (done : Committed) (number : ℕ) (P : List Change → Type 0) → book.commit ≡ Some done → IsDone book number P → P done.txn
done-was book done number P e h = (subst (λ c. IsSomeAnd c (λ (d : Committed). (d.number ≡ number) × P d.txn)) e h).1

pub put_done : (book : Book) (who : Sid) (grant : Permit) (value : List ℕ) (stamp : ℕ) (done : Committed) (r : Result Bool Memory)
    → book.commit ≡ Some done → done.number ≡ stamp → IsOwn book who grant
    → IfOk r (λ is. IsTrue is ↔ Refreshes book grant value done.txn)
    → IfOk r (λ is. IsTrue is ↔ IsBorne book who (wanted.Sar grant (Some value) stamp))
put_done book who grant value stamp done r commit same own h =
    ok_gives (λ is. IsTrue is ↔ Refreshes book grant value done.txn)
    (λ is. IsTrue is ↔ IsBorne book who (wanted.Sar grant (Some value) stamp)) r
    (λ is both. (
      λ t. (own, done-is book done stamp (Refreshes book grant value) commit same (both.0 t)),
      λ borne. both.1 (done-was book done stamp (Refreshes book grant value) commit borne.1),
    )) h
