-- A part handed over by a copy, since an exported function can't return a reference.
use Rattle.std.specs.Prelude.{cond, List, ℕ, leb, length}
use Rattle.leaf_node.specs.Build.{put}

-- a buffer after the copy: all of the bytes at its start, where it has room for them, else what it held
unfoldable pub copied_whole : List ℕ → List ℕ → List ℕ
copied_whole bytes out = cond (leb (length bytes) (length out)) (put out 0 bytes) out
