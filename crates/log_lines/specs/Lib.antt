pub mod LogTexts
