-- A store over a disk that never lies is clean for good.
use Rattle.std.proofs.Common.{◌≡◌, true, refl}
use Rattle.sqlite_disk.specs.declared.Disk.{Ghosts}
use Rattle.sqlite_store.specs.declared.store.FileStore.{FileStore}
use Rattle.sqlite_pool.specs.Pool as pool
use Rattle.sqlite_trees.specs.View.{doubt}
use Rattle.sqlite.specs.Files.{file_state}
use Rattle.sqlite.specs.Held.{Held}
use Rattle.sqlite.specs.State.{HasCleanDisk}

module _ {D : Type 0} {g : Ghosts D} where
  pub always_clean : ((file : D) → g.is_clean file ≡ true) → (c : Held (FileStore D g))
      → HasCleanDisk (file_state c)
  unfolding pool.state doubt
  always_clean clean c = rw (clean c.store.pool.backing.pager.log.log, clean c.store.pool.backing.pager.log.db) refl
