use Rattle.groups.proofs.Steps.{category_told}
use Rattle.groups.proofs.categories.category_of.Goals as goal

pub returns : goal.returns
returns c = category_told _ _ _ _ _ _ _ c.grouped-site.ensures c.grouped-site-2.ensures c.grouped-site-3.ensures c.child_text-kind.ensures c.child_text-code.ensures c.child_text-rate.ensures c.say_non_vat.ensures c.required_code-category.ensures c.percent-rate.ensures
