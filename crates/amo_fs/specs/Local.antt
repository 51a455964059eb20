-- The types of file systems that are a machine's own.
use Rattle.std.specs.Prelude.{Bool, ◌||◌, ℕ, List, codes}
use Rattle.std.specs.Str.{bytes_eq}

-- one of those that lie on a disk
abbrev pub is_local : List ℕ → Bool
is_local kind =
    bytes_eq kind (codes "ext2") || bytes_eq kind (codes "ext3") || bytes_eq kind (codes "ext4") || bytes_eq kind (codes "xfs")
    || bytes_eq kind (codes "btrfs") || bytes_eq kind (codes "f2fs") || bytes_eq kind (codes "zfs")
