use Rattle.og_linear.proofs.Values.{val-plus, val-scaled, val-add_scaled, val-apply, val-replace, image-map_set}
use Rattle.og_linear.proofs.Cuts.{cut_said, ceil_above, ceil_below}
use Rattle.og_linear.proofs.laws.value_laws.Goals as goal

pub returns-clause-plus : goal.returns-clause-plus
returns-clause-plus c = val-plus

pub returns-clause-scaled : goal.returns-clause-scaled
returns-clause-scaled c = val-scaled

pub returns-clause-add_scaled : goal.returns-clause-add_scaled
returns-clause-add_scaled c = λ f g r k s e. val-add_scaled f k g r s e

pub returns-clause-replace : goal.returns-clause-replace
returns-clause-replace c = λ x f g r s tidy e. val-replace x g f r s tidy e

pub returns-clause-apply : goal.returns-clause-apply
returns-clause-apply c = val-apply

pub returns-clause-image : goal.returns-clause-image
returns-clause-image c = λ m x y g. image-map_set m x g y

pub returns-clause-cut : goal.returns-clause-cut
returns-clause-cut c = cut_said

pub returns-clause-ceiling : goal.returns-clause-ceiling
returns-clause-ceiling c = λ n d h. (ceil_above n d h, ceil_below n d h)
