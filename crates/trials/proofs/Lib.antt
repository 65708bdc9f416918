mod WholeTexts
mod Sessions
mod Beginnings
mod Tried
