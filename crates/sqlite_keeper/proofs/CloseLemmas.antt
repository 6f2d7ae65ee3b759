-- What a close leaves in the two files.
use Rattle.std.proofs.Common.{ℕ, ◌≡◌, ◌∙◌, List, IsTrue, refl, sym, subst}
use Rattle.rows_model.specs.Rows.{Tables}
use Rattle.sqlite_disk.specs.declared.Disk.{Ghosts}
use Rattle.sqlite_disk.specs.declared.Files.{Files}
use Rattle.sqlite_wal.specs.Recovery.{Image}
use Rattle.sqlite_wal.specs.Files.{outcomes}
use Rattle.sqlite_store.specs.declared.store.FileStore.{FileStore}
use Rattle.sqlite.specs.Effect.{Database}
use Rattle.sqlite.specs.Held.{Held}
use Rattle.sqlite.specs.Files.{image_of, file_state}
use Rattle.sqlite.specs.Closing.{HoldsAlone, IsCopied}
use Rattle.sqlite_keeper.specs.declared.bonds.Tally.{Tally}
use Rattle.sqlite_keeper.specs.Bases.{rows_in, IsSince}
use Rattle.sqlite_keeper.specs.Closings.{IsWhole, AreWhole}

module _ {D : Type 0} (g : Ghosts D) (tally : Tally) (seen : Database) where
  whole : (c : Held (FileStore D g)) (image : Image) → IsSince tally seen (file_state c) → (file_state c).committed ≡ seen
      → HoldsAlone image (file_state c).committed.trees → IsWhole image (rows_in seen)
  whole c image since committed alone = record {
    db = seen;
    rows_are = record { lists = since.counted.lists; rows_are = refl };
    alone = subst (λ (db : Database). HoldsAlone image db.trees) committed alone;
  }

  -- the last commit of a connection that was open, outside a transaction, is what was seen
  pub copied_whole : (c : Held (FileStore D g)) (files : Files D) → IsSince tally seen (file_state c)
      → (IsTrue (file_state c).is_open → (file_state c).now ≡ (file_state c).committed) → IsCopied c files → AreWhole g (rows_in seen) files
  copied_whole c files since settled copied =
      let committed : (file_state c).committed ≡ seen = sym (settled copied.was_open) ∙ since.same copied.was_open in
      record {
        seen = whole c (image_of g files) since committed copied.seen;
        left = λ (image : Image) (left : outcomes g files.log files.db image). whole c image since committed (copied.left image left);
      }

-- files that read as others did, and of which a crash leaves no more
pub moved_whole : {D : Type 0} (g : Ghosts D) (rows : Tables) (old new : Files D) → g.seen new.log ≡ g.seen old.log → g.seen new.db ≡ g.seen old.db
    → ((image : Image) → outcomes g new.log new.db image → outcomes g old.log old.db image) → AreWhole g rows old → AreWhole g rows new
moved_whole g rows old new log db crash h = record {
  seen =
      let half : IsWhole (record { log = g.seen old.log; db = g.seen new.db }) rows =
      subst (λ (bytes : List ℕ). IsWhole (record { log = g.seen old.log; db = bytes }) rows) (sym db) h.seen in
      subst (λ (bytes : List ℕ). IsWhole (record { log = bytes; db = g.seen new.db }) rows) (sym log) half;
  left = λ (image : Image) (left : outcomes g new.log new.db image). h.left image (crash image left);
}
