-- What stands for an error of the engine, and for a fault of a folder. Profile.
use Rattle.std.specs.Prelude.{ℕ, List, [], ◌++◌, codes}
use Rattle.std.specs.declared.io.ErrorKind.{ErrorKind}
use Rattle.std.specs.declared.io.ErrorKind.TheVariants as kind
use Rattle.sqlite.specs.declared.error.Error.{Error}
use Rattle.sqlite.specs.declared.error.Error.TheVariants.{SqliteFailure}
use Rattle.sqlite.specs.declared.error.ErrorCode.TheVariants as code
use Rattle.store_faults.specs.declared.shelf.ShelfFault.{ShelfFault}
use Rattle.store_faults.specs.declared.shelf.ShelfFault.TheVariants as shelf
use Rattle.sheet_types.specs.Texts.{uuid_text}
use Rattle.store_folder.specs.declared.fault.FolderFault.{FolderFault}
use Rattle.store_folder.specs.declared.fault.FolderFault.TheVariants.{OutOfMemory, FolderHeld, PackageHeld, Link}
use Rattle.store_folder.specs.declared.fault.FolderFault.TheVariants.{SecondName, NameUnsettled, PackageFailed}
use Rattle.store_folder.specs.declared.fault.FolderFault.TheVariants.{FolderUnread, StoreFault}

-- what standard error is told of a fault, beside its name: nothing where no more is known
abbrev pub cause_text : FolderFault → List ℕ
cause_text OutOfMemory = []
cause_text StoreFault = []
cause_text FolderHeld = codes "another process may hold the folder"
cause_text (PackageHeld uuid) = codes "another process may hold the package " ++ uuid_text uuid
cause_text (Link uuid) = uuid_text uuid ++ codes ".gpkg or its log is a symbolic link"
cause_text (SecondName uuid) = uuid_text uuid ++ codes ".gpkg or its log has a second name"
cause_text FolderUnread = codes "the folder is not there, or cannot be read and written"
cause_text (PackageFailed uuid) =
    uuid_text uuid ++ codes ".gpkg cannot be opened, is no database, or too many files are open"
cause_text (NameUnsettled uuid) =
    uuid_text uuid ++ codes ".gpkg stands, but a power loss may take its name"

-- of a file or a folder
abbrev pub of_kind : ErrorKind → FolderFault
of_kind kind.OutOfMemory = OutOfMemory
of_kind _ = StoreFault

-- of the store of a package
abbrev pub of_error : List ℕ → Error → FolderFault
of_error uuid (SqliteFailure code.OutOfMemory) = OutOfMemory
of_error uuid (SqliteFailure code.DatabaseBusy) = PackageHeld uuid
of_error uuid _ = PackageFailed uuid

-- a shelf does not tell who has a file
abbrev pub shelf_fault : FolderFault → ShelfFault
shelf_fault OutOfMemory = shelf.OutOfMemory
shelf_fault fault = shelf.StoreFault
