-- The parts that a line is read in.
use Rattle.std.specs.Prelude.{◌≡◌, ◌≢◌, ℕ, Bool, cond, List, ◌∷◌, ◌++◌, Some, None, Option}
use Rattle.std.specs.List.{All}
use Rattle.voxels.specs.declared.space.Position.{Position}
use Rattle.scans.specs.Texts.{Said, origin, hit, far, end, is_number, decimal}
use Rattle.scans.specs.declared.lines.Line.{Line}
use Rattle.scans.specs.declared.lines.Line as line

-- bytes that are cut at their first such byte: what stands before it, and what behind it
abbrev pub CutAt : ℕ → List ℕ → List ℕ → List ℕ → Type 0
CutAt byte bytes before behind = (bytes ≡ before ++ byte ∷ behind) × All (λ b. b ≢ byte) before

-- a number, where the bytes are one
abbrev pub number_in : List ℕ → Option ℕ
number_in bytes = cond (is_number bytes) (Some (decimal bytes)) None

-- what a return line says
abbrev pub return_said : Bool → Position → Said
return_said is_hit p = cond is_hit (hit p) (far p)

-- what a line says
abbrev pub said_by : Line → Said
said_by (line.TheVariants.Origin p) = origin p
said_by (line.TheVariants.Return is_hit p) = return_said is_hit p
said_by line.TheVariants.End = end
