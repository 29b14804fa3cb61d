use Rattle.bit_table_layout.proofs.ImageLemmas as ImageLemmas
use Rattle.bit_table_layout.proofs.image.images_tell_numbers.Goals as goal

pub returns : goal.returns
returns c = ImageLemmas.images_tell_numbers
