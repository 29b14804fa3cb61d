use Rattle.bit_table_layout.proofs.LoadLemmas as LoadLemmas
use Rattle.bit_table_layout.proofs.image.loads_take_images.Goals as goal

pub returns : goal.returns
returns c = LoadLemmas.loads_take_images
