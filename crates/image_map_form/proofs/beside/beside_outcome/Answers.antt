use Rattle.image_map_form.proofs.beside.beside_outcome.Goals as goal

pub returns-in-Applied : goal.returns-in-Applied
returns-in-Applied c = λ k. rw c.in-Applied.is

pub returns-in-Rejected : goal.returns-in-Rejected
returns-in-Rejected c = λ k. rw c.in-Rejected.is (c.beside_rejection.ensures k)
