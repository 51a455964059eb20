-- The text of /proc/self/mountinfo, a line for each mount, in the words of proc(5).
use Rattle.std.specs.Prelude.{◌≡◌, ◌≢◌, ℕ, ◌==◌, List, [], ◌∷◌, ◌++◌, codes, length, drop, slice_index_or, Option, Some, None, if◌then◌else◌}
use Rattle.std.specs.List.{AllByRecursion}
use Rattle.std.specs.Str.{bytes_eq}
use Rattle.amo_fs.specs.Parts.{lines_of, fields_of, first_by}
use Rattle.amo_fs.specs.declared.mount.Mount.{Mount}

-- a mount: its file system's device, its options, its file system's type and its file system's
-- options
pub record MountView : Type 0 where
  pub device : List ℕ
  pub options : List ℕ
  pub kind : List ℕ
  pub super_options : List ℕ

-- what a mount says
abbrev pub seen : Mount → MountView
seen m = record { device = m.device.now; options = m.options.now; kind = m.kind.now; super_options = m.super_options.now }

-- a mount that says this
abbrev pub view : List ℕ → List ℕ → List ℕ → List ℕ → MountView
view device options kind super_options = record { device = device; options = options; kind = kind; super_options = super_options }

-- the fields after the first that is a lone dash
abbrev pub behind_dash : List (List ℕ) → List (List ℕ)
behind_dash [] = []
behind_dash (field ∷ fields) = if bytes_eq field (codes "-") then fields else behind_dash fields

-- the mount of this device and these options, whose type and whose file system's options are the
-- first and the third of three fields
abbrev pub mount_by : List ℕ → List ℕ → List (List ℕ) → Option MountView
mount_by device options last = if length last == 3 then Some (view device options (slice_index_or last 0 []) (slice_index_or last 2 [])) else None

-- the mount of these fields
abbrev pub mount_of : List (List ℕ) → Option MountView
mount_of fields = mount_by (slice_index_or fields 2 []) (slice_index_or fields 5 []) (behind_dash (drop 6 fields))

-- the mount of these fields, if the first of them is the id
abbrev pub mount_in : List ℕ → List (List ℕ) → Option MountView
mount_in id fields = if bytes_eq (slice_index_or fields 0 []) id then mount_of fields else None

-- the mount of a line, if it has this id
abbrev pub mount_at : List ℕ → List ℕ → Option MountView
mount_at id line = mount_in id (fields_of line)

-- the mount of the first line that describes one of this id
abbrev pub first_mount : List ℕ → List (List ℕ) → Option MountView
first_mount id lines = first_by (mount_at id) lines

-- the mount of this id
abbrev pub mount_of_id : List ℕ → List ℕ → Option MountView
mount_of_id text id = first_mount id (lines_of text)

-- The line describes this mount under this id. One blank stands between each two of its fields. The
-- first six are the id, the parent's id, the device, the root, the mount point and the mount's
-- options. Then come further fields, none of which is a lone dash, and a lone dash. The last three
-- are the type of the file system, its source and its options.
pub record Describes (line id : List ℕ) (m : MountView) : Type 0 where
  pub parent : List ℕ
  pub root : List ℕ
  pub point : List ℕ
  pub further : List (List ℕ)
  pub source : List ℕ
  pub no_dash : AllByRecursion (λ field. field ≢ codes "-") further
  pub fields : fields_of line ≡ id ∷ parent ∷ m.device ∷ root ∷ point ∷ m.options ∷ (further ++ codes "-" ∷ m.kind ∷ source ∷ m.super_options ∷ [])

-- none of these lines describes a mount under this id
abbrev pub NoneDescribes : List ℕ → List (List ℕ) → Type 0
NoneDescribes id lines = AllByRecursion (λ line. (m : MountView) → Describes line id m → ⊥) lines

-- one line of the text describes this mount under this id, and no line before it describes any
pub record IsMountOf (text id : List ℕ) (m : MountView) : Type 0 where
  pub before : List (List ℕ)
  pub line : List ℕ
  pub behind : List (List ℕ)
  pub lines : lines_of text ≡ before ++ line ∷ behind
  pub described : Describes line id m
  pub first : NoneDescribes id before

-- no line of the text describes a mount under this id
abbrev pub NoMountOf : List ℕ → List ℕ → Type 0
NoMountOf text id = NoneDescribes id (lines_of text)
