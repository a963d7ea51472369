-- The content as the writer holds it.
use Rattle.std.specs.Prelude.{ℕ, List, ◌++◌}
use Rattle.writer.specs.declared.content.Content.{Content}

-- its bytes in line order, where they lie in three pieces
abbrev pub whole : Content → List ℕ
whole c = c.head ++ (c.information.now ++ c.check)
