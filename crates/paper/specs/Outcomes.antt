-- "Every public function's statement settles its answer, the link given back and each byte of lent memory, refused calls too" (01, "How tight the promises are"): all public functions of all rooms.
use Rattle.paper.specs.FrameOutcomes.{FrameOutcomes}
use Rattle.paper.specs.LineOutcomes.{LineOutcomes}
use Rattle.paper.specs.SideOutcomes.{SideOutcomes}
use Rattle.paper.specs.SlaveOutcomes.{SlaveOutcomes}
use Rattle.paper.specs.MasterOutcomes.{MasterOutcomes}
use Rattle.paper.specs.CaptureOutcomes.{CaptureOutcomes}
use Rattle.paper.specs.LayoutOutcomes.{LayoutOutcomes}
use Rattle.paper.specs.BitbusOutcomes.{BitbusOutcomes}

pub record Outcomes : Type 0 where
  pub frame : FrameOutcomes
  pub line : LineOutcomes
  pub side : SideOutcomes
  pub slave : SlaveOutcomes
  pub master : MasterOutcomes
  pub capture : CaptureOutcomes
  pub layout : LayoutOutcomes
  pub bitbus : BitbusOutcomes
