use native.Mathlib.Omega.{arith}
use Rattle.characters.proofs.Trims.{trimmed_in, cut_trimmed}
use Rattle.characters.proofs.trimming.trimmed_text.Goals as goal

pub slice_bounds-result-count : goal.slice_bounds-result-count
slice_bounds-result-count c = omega (arith, trimmed_in _ _ _ c.trim-t.ensures)

pub slice_bounds-result-start : goal.slice_bounds-result-start
slice_bounds-result-start c = omega (arith, trimmed_in _ _ _ c.trim-t.ensures)

pub slice_bounds-result-end : goal.slice_bounds-result-end
slice_bounds-result-end c = omega (arith, trimmed_in _ _ _ c.trim-t.ensures)

pub returns : goal.returns
returns c = search cut_trimmed
