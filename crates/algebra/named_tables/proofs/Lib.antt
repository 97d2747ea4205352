pub mod SameMeanings
