use mathlib.Core.Path.{refl, ◌∙◌, ap}
use mathlib.Core.List.{List}
use Prim.Native.Nat.{ℕ}
use denote.Ref.{Bor}
use lib.ListN.{take}
use Rattle.text.specs.Span.{clipped}
use Rattle.text.proofs.Spans.{rest_of, front_of}
use Rattle.text.proofs.span.clip.Goals as goal

pub returns : goal.returns
unfolding clipped
returns c =
    ap (λ (r : Bor (List ℕ)). r.now) c.unwrap_or.ensures ∙
    front_of _ c.args.len c.get-2.result c.unwrap_or-rest.result refl c.get-2.ensures.lookup ∙
    ap (λ (r : Bor (List ℕ)). take c.args.len r.now) c.unwrap_or-rest.ensures ∙
    ap (take c.args.len) (rest_of c.args.s.now c.args.start c.get.result _ refl c.get.ensures.lookup)
