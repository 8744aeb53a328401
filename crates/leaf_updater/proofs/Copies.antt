-- A part handed over by a copy. Assumes nothing.
use mathlib.Core.Path.{◌≡◌}
use mathlib.Core.List.{List}
use Prim.Native.Nat.{ℕ, ◌≤◌, ◌<◌}
use lib.ListN.{length}
use borrow.Author.Tests.{lt-leb, le-leb}
use Rattle.leaf_node.specs.Build.{put}
use Rattle.leaf_updater.specs.Copy.{copied_whole}

pub no_room : (bytes out : List ℕ) → length out < length bytes → out ≡ copied_whole bytes out
unfolding copied_whole
no_room bytes out h = rw (lt-leb (length bytes) (length out) h)

pub room : (bytes out after : List ℕ) → length bytes ≤ length out → after ≡ put out 0 bytes → after ≡ copied_whole bytes out
unfolding copied_whole
room bytes out after h e = rw (le-leb (length bytes) (length out) h) e

pub copy_of : (bytes part out after : List ℕ) → bytes ≡ part → after ≡ copied_whole bytes out → after ≡ copied_whole part out
copy_of bytes part out after e f = rw (← e) f

pub length_of_lem : (n : ℕ) (bytes part : List ℕ) → bytes ≡ part → n ≡ length bytes → n ≡ length part
length_of_lem n bytes part e f = rw (← e) f
