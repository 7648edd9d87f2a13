-- Text of ASCII characters as bytes.
--   ascii t          the bytes of the text t, as in `ascii "sum"`
use Rattle.std.specs.Prelude.{List, [] as none, ◌∷◌ as ◌then◌, ℕ}
use Prim.Native.Char.{code}
use Prim.Native.String.{String, [], ◌∷◌}

abbrev pub ascii : String → List ℕ
ascii [] = none
ascii (c ∷ t) = code c then ascii t
